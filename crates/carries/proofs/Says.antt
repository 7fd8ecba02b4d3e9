-- One record after a clean past: what is said of the gap before it and of its edge, by the summary, is what the rules say.
-- Assumes nothing.
use Prim.Native.Nat.{ℕ, ◌+◌, ◌-◌, ◌≤◌}
use native.Mathlib.Omega.{arith}
use mathlib.Core.Path.{◌≡◌, refl, sym, ap, ◌∙◌, subst}
use mathlib.Core.Bool.{Bool, true, false, cond}
use mathlib.Core.List.{◌∷◌}
use lib.Dec.{ltb, leb}
use borrow.Author.Tests.{ltb-false, leb-true}
use Rattle.answers.specs.declared.Break.{Break}
use Rattle.answers.specs.declared.Verdict.{Verdict}
use Rattle.records.specs.declared.Record.{Record}
use Rattle.records.specs.declared.Command.TheVariants.{Ref}
use Rattle.chip.specs.declared.Chip.{Chip}
use Rattle.running.specs.declared.Late.{Late}
use Rattle.running.specs.Late.{why, sooner}
use Rattle.running.specs.Said.{first, verdict_at, late_at}
use Rattle.running.specs.Deadlines as running
use Rattle.edges.specs.Says.{next24, next25, next28, next31, soonest_of, owing, says_by, says_of}
use Rattle.rules.specs.Past.{Past, edge, number, cke, asleep, command, is, latest}
use Rattle.rules.specs.Down.{turned, down}
use Rattle.rules.specs.Rules.{checks, change_checks, exit_checks, break_at}
use Rattle.rules.specs.Deadlines.{owed_to}
use Rattle.rules.specs.Verdict.{clean, stop, keep, told, verdict_to, Apart}
use Rattle.rules.proofs.Facts.{Sound}
use Rattle.rules.proofs.Sense.{verdict-next}
use Rattle.rules.proofs.Gap.{now24, now28, now31, now_any, due24, due28, due31}
use Rattle.rules.proofs.Clean.{Clean}
use Rattle.rules.proofs.Down.{down_is}
use Rattle.rules.proofs.Debts.{gap_to}
use Rattle.rules.proofs.Numbered.{in_order}
use Rattle.rules.proofs.Edges.{verdict-same, clean-past, gap-says, late-between, small-owed, near-stay, near-ref, at-record, late-at}
use Rattle.rules.proofs.Turn.{said, passing, said-in-order, sooner-first}
use Rattle.carries.proofs.Summary.{debt_of, banks_of, device_of, summary}
use Rattle.carries.proofs.Broken.{broken-in, changed-in, left_in_lem}
use Rattle.carries.proofs.Gap.{next24-is, next28-is, next31-is, due-next, owing-is}

sooner-second : (x y : Late) → (sooner x y).at ≤ y.at
unfolding sooner
sooner-second x y = go (leb x.at y.at) refl
  where
    go : (b : Bool) → leb x.at y.at ≡ b → (cond b x y).at ≤ y.at
    go true h = leb-true x.at y.at h
    go false h = omega arith

-- w, v, u, q: what passes at e of rules 24, 25, 28 and 31
says-said :
    (e n : ℕ) (x24 x25 x28 x31 : Late) (b o d f w v u q : Break)
    → (e ≤ x24.at → late_at e x24 ≡ w) → (e ≤ x25.at → o ≡ v) → (e ≤ x28.at → late_at e x28 ≡ u) → (e ≤ x31.at → late_at e x31 ≡ q)
    → says_by e n x24 x25 x28 x31 b o d f
    ≡ said (keep (passing (soonest_of x24 x25 x28 x31) e) (in_order (told e n b) (told e 0 w) (told e 0 v) (told e n d) (told e 0 u) (told e n f) (told e 0 q)))
unfolding says_by keep
says-said e n x24 x25 x28 x31 b o d f w v u q h g k m = go (ltb (soonest_of x24 x25 x28 x31).at e) refl
  where
    rest : Verdict
    rest =
        first (verdict_at e n b) (first (verdict_at e 0 (late_at e x24)) (first (verdict_at e 0 o)
        (first (verdict_at e n d) (first (verdict_at e 0 (late_at e x28)) (first (verdict_at e n f) (verdict_at e 0 (late_at e x31)))))))

    go :
        (x : Bool) → ltb (soonest_of x24 x25 x28 x31).at e ≡ x
        → cond x (said (stop (soonest_of x24 x25 x28 x31).at 0 (why (soonest_of x24 x25 x28 x31)))) rest
        ≡ said (keep (cond x (stop (soonest_of x24 x25 x28 x31).at 0 (why (soonest_of x24 x25 x28 x31))) clean)
        (in_order (told e n b) (told e 0 w) (told e 0 v) (told e n d) (told e 0 u) (told e n f) (told e 0 q)))
    go true y = refl
    go false z =
        let l : e ≤ (soonest_of x24 x25 x28 x31).at = ltb-false _ _ z in
        let l25 = sooner-second x24 (sooner x25 (sooner x28 x31)) in
        let l28 = sooner-second x25 (sooner x28 x31) in
        (λ i. first (verdict_at e n b) (first (verdict_at e 0 (h (omega (arith, sooner-first x24 (sooner x25 (sooner x28 x31)))) i))
        (first (verdict_at e 0 (g (omega (arith, sooner-first x25 (sooner x28 x31))) i))
        (first (verdict_at e n d) (first (verdict_at e 0 (k (omega (arith, sooner-first x28 x31)) i))
        (first (verdict_at e n f) (verdict_at e 0 (m (omega (arith, sooner-second x28 x31)) i))))))))
        ∙ said-in-order e n b w v d u f q

module _ (C : Chip) (S : Sound C) (r : Record) (p : Past) where
  abbrev e : ℕ
  e = edge (r ∷ p)

  abbrev n : ℕ
  n = number (r ∷ p)

  abbrev x24 : Late
  x24 = next24 C (banks_of C p) (edge p) (e + 1)

  abbrev x25 : Late
  x25 = next25 (debt_of C p) (number (latest (is Ref) p)) (e + 1)

  abbrev x28 : Late
  x28 = next28 C (cke p) (asleep p) (device_of C p) (e + 1)

  abbrev x31 : Late
  x31 = next31 C (debt_of C p) (number (latest (is Ref) p)) (e + 1)

  says-parts : 1 ≤ r.step → Apart p → verdict_to C p (edge p) ≡ clean
      → says_of C (summary C p) r
      ≡ says_by e n x24 x25 x28 x31 (break_at (checks C) r p) (owing (command (r ∷ p)) e x25) (break_at (change_checks C) r p) (break_at (exit_checks C) r p)
  unfolding says_of summary device_of debt_of
  says-parts far apart z =
      let h = clean-past C p apart z in
      λ i. says_by e n x24 x25 x28 x31 (broken-in C S r p h i) (owing (command (r ∷ p)) e x25) (changed-in C S r p h far i) (left_in_lem C S r p h far i)

  -- after a clean past what is said of the gap before the record and of its edge is what the rules say
  pub says_is : 1 ≤ r.step → Apart p → verdict_to C p (edge p) ≡ clean → says_of C (summary C p) r ≡ said (verdict_to C (r ∷ p) (edge (r ∷ p)))
  says_is far apart z =
      says-parts far apart z
      ∙ says-said e n x24 x25 x28 x31 (break_at (checks C) r p) (owing (command (r ∷ p)) e x25) (break_at (change_checks C) r p) (break_at (exit_checks C) r p) (now24 C p e)
      (running.owing (owed_to C.trefi (r ∷ p)) (number (latest (is Ref) (r ∷ p)))) (now28 C p e) (now31 C p e) at24 (owing-is C p S.refi-least small r) at28 at31
      ∙ ap said (sym (verdict-next C (r ∷ p) e (omega arith) ∙ (λ i. keep (gap i) (at-record C S.refi-least r p far i))))
    where
      small : owed_to C.trefi p ≤ 16
      small = small-owed C S.refi-least p apart z

      at24 : e ≤ x24.at → late_at e x24 ≡ now24 C p e
      at24 l =
          ap (late_at e) (next24-is C p (e + 1))
          ∙ late-at (now24 C p) (edge p) e (e + 1) _ (omega arith) (omega arith) (rw (next24-is C p (e + 1)) at l) (due24 C p (e + 1))

      h : Clean C p
      h = clean-past C p apart z

      near : down p ≡ true → edge p ≤ edge (turned p) + C.nine
      near = near-stay C p apart z

      at28 : e ≤ x28.at → late_at e x28 ≡ now28 C p e
      at28 l =
          ap (late_at e) (next28-is C p (e + 1))
          ∙ late-at (now28 C p) (edge p) e (e + 1) _ (omega arith) (omega arith) (subst (λ (x : Late). e ≤ x.at) (next28-is C p (e + 1)) l) (due28 C p (down_is C p h) near (e + 1))

      close : gap_to p ≤ C.nine
      close = near-ref C p apart z

      at31 : e ≤ x31.at → late_at e x31 ≡ now31 C p e
      at31 l =
          ap (late_at e) (next31-is C p (e + 1))
          ∙ late-at (now31 C p) (edge p) e (e + 1) _ (omega arith) (omega arith) (subst (λ (x : Late). e ≤ x.at) (next31-is C p (e + 1)) l) (due31 C p close (e + 1))

      gap : verdict_to C (r ∷ p) (e - 1) ≡ passing (soonest_of x24 x25 x28 x31) e
      gap = gap-says C (r ∷ p) (now_any C p) (edge p) e (e + 1) (soonest_of x24 x25 x28 x31) (omega arith) (omega arith)
          (λ t a b. late-between C S.refi-least r p t a b) (due-next C p S.refi-least small h near close (e + 1))
          (verdict-same C r p (edge p) (omega arith) ∙ z)
