-- What a verdict means, all of it. Clean: no rule is broken at any edge up to the end. Broken: the earliest edge at which a rule is
-- broken, the least rule broken there, its record, and the pair that 01 names for the rule.
-- Assumes nothing.
use Prim.Native.Nat.{ℕ, ◌-◌, ◌≤◌, ◌<◌}
use native.Mathlib.Omega.{arith}
use mathlib.Core.Path.{◌≡◌, refl, sym, ap, ◌∙◌}
use mathlib.Core.Logic.{◌↔◌}
use mathlib.Core.List.{◌∷◌}
use borrow.Author.Tests.{eq-eqb, ne_eqb}
use Rattle.laws.specs.Among.{Among, first, next}
use Rattle.laws.proofs.Unique.{Unique, one_answer}
use Rattle.answers.specs.declared.Break.{Break}
use Rattle.answers.specs.declared.Break.TheVariants.{Fine, Broken}
use Rattle.records.specs.declared.Record.{Record}
use Rattle.chip.specs.declared.Chip.{Chip}
use Rattle.rules.specs.Past.{Past, edge, number, ◌∈◌, here, there}
use Rattle.rules.specs.Deadlines.{rule24, rule25, rule28, rule31}
use Rattle.rules.specs.Verdict.{Outcome, clean, stop, keep, told, Check, of_record, deadline, record_says, check_says, edge_checks, broken_at, verdict_to, Apart}
use Rattle.rules.proofs.Generic.{edge-le}
use Rattle.rules.proofs.Numbered.{stop-clean}
use Rattle.rules.proofs.Sense.{verdict-next, skip-to, clean-iff, stop-at, stop-after, earliest}
use Rattle.means.specs.Breaks.{BreaksAt, by-record, by-limit, by-debt, by-stay, by-gap}
use Rattle.means.specs.Means.{How, record-did, limit-passed, debt-grew, stay-passed, gap-passed, Broken-means}
use Rattle.means.proofs.Breaks.{broken-by, says_so}
use Rattle.means.proofs.Passing.{pair24, late-bad, pair25, owing-bad, pair28, stay-bad, pair31, parted-bad}
use Rattle.means.proofs.Order.{broken-never, broken-clean, broken-least}

module _ (C : Chip) (q : Past) (apart : Apart q) where
  -- ── An edge ───────────────────────────────────────────────────────────────────────────────

  -- one of the checks says of edge t that rule k is broken
  record SaidAt (t k : ℕ) : Type 0 where
    check : Check
    of : Among check (edge_checks C)
    num : ℕ
    partner : ℕ
    needed : ℕ
    found : ℕ
    says : check_says check q t ≡ stop t num (Broken k partner needed found)

  -- a check looks at the record that stands at t, and no other record stands there
  record-says : (g : Record → Past → Break) {s p : Past} {r : Record} → Apart p → r ∷ s ∈ p
      → record_says g p (edge (r ∷ s)) ≡ told (edge (r ∷ s)) (number (r ∷ s)) (g r s)
  record-says g a (here {r = r} {p = p}) = rw (eq-eqb (edge (r ∷ p)) (edge (r ∷ p)) refl)
  record-says g {s = s} {r = r} a (there {r = last} {p = p} i) =
      rw (ne_eqb (edge (last ∷ p)) (edge (r ∷ s)) (λ e. omega (arith, edge-le i))) (record-says g a.1 i)

  by-the-deadline : {t k : ℕ} (g : Past → ℕ → Break) → Among (deadline g) (edge_checks C)
      → ((j n m f : ℕ) → g q t ≡ Broken j n m f → j ≡ k) → (g q t ≡ Fine → ⊥) → SaidAt t k
  by-the-deadline {t} {k} g i own bad = go (g q t) refl
    where
      go : (b : Break) → g q t ≡ b → SaidAt t k
      go Fine e = absurd (bad e)
      go (Broken j n m f) e =
          record {
            check = deadline g;
            of = i;
            num = 0;
            partner = n;
            needed = m;
            found = f;
            says = ap (told t 0) (e ∙ ap (λ x. Broken x n m f) (own j n m f e));
          }

  says_there : {t k : ℕ} → BreaksAt C q t k → SaidAt t k
  says_there {t} {k} (by-record {r = r} {p = p} i e b) =
      let w = says_so C r p b in
      record {
        check = of_record w.check;
        of = w.of;
        num = number (r ∷ p);
        partner = w.partner;
        needed = w.needed;
        found = w.found;
        says =
            ap (record_says w.check q) (sym e) ∙ record-says w.check apart i ∙ ap (told (edge (r ∷ p)) (number (r ∷ p))) w.says
            ∙ ap (λ u. stop u (number (r ∷ p)) (Broken k w.partner w.needed w.found)) e;
      }
  says_there {t} (by-limit n l x) =
      by-the-deadline (rule24 C) (search (first, next) depth 40) (λ j a b c h. (pair24 C q t j a b c h).0) (late-bad C q t n l x)
  says_there {t} (by-debt x) =
      by-the-deadline (rule25 C) (search (first, next) depth 40) (λ j a b c h. (pair25 C q t j a b c h).0) (owing-bad C q t x)
  says_there {t} (by-stay x) =
      by-the-deadline (rule28 C) (search (first, next) depth 40) (λ j a b c h. (pair28 C q t j a b c h).0) (stay-bad C q t x)
  says_there {t} (by-gap x) =
      by-the-deadline (rule31 C) (search (first, next) depth 40) (λ j a b c h. (pair31 C q t j a b c h).0) (parted-bad C q t x)

  none-broken : (t j : ℕ) → broken_at C q t ≡ clean → BreaksAt C q t j → ⊥
  none-broken t j h b = let w = says_there b in stop-clean (sym w.says ∙ broken-clean C w.check q t h w.of)

  -- ── The verdict ───────────────────────────────────────────────────────────────────────────

  broken-there : (u t n : ℕ) (b : Break) → verdict_to C q u ≡ stop t n b → (1 ≤ t) × (broken_at C q t ≡ stop t n b)
  unfolding verdict_to keep
  broken-there u t n b h =
      let own = (stop-at C q u t n b h).1 in
      let l : 0 < t = stop-after C q 0 t n b refl own in
      let z : verdict_to C q (t - 1) ≡ clean = skip-to C q 0 (t - 1) (omega arith) (λ s a c. earliest C q u t n b h s a (omega arith)) refl in
      (l, ap (λ v. keep v (broken_at C q t)) (sym z) ∙ sym (verdict-next C q t l) ∙ own)

  least-how : (t u n k x m f : ℕ) → broken_at C q t ≡ stop u n (Broken k x m f) → How C q t n x m f k × ((j : ℕ) → BreaksAt C q t j → k ≤ j)
  least-how t u n k x m f h =
      let w = broken-least C q t h in
      (w.0, λ j b. let v = says_there b in w.1 v.check t v.num j v.partner v.needed v.found v.of v.says)

  breaks-how : {t n k x m f : ℕ} → How C q t n x m f k → BreaksAt C q t k
  breaks-how (record-did {r = r} {p = p} i e l w) = by-record i e (broken-by C r p w)
  breaks-how (limit-passed e w) = by-limit w.bank w.below w.passed
  breaks-how (debt-grew e w) = by-debt w.owes
  breaks-how (stay-passed e w) = by-stay (w.event, w.latest-of, w.entered, w.passed)
  breaks-how (gap-passed e w) = by-gap w.passed

  -- a broken verdict
  pub broken-means : (end t n k x m f : ℕ) → verdict_to C q end ≡ stop t n (Broken k x m f) → Broken-means C q end t n k x m f
  broken-means end t n k x m f h =
      let w = broken-there end t n (Broken k x m f) h in
      let v = least-how t t n k x m f w.1 in
      record {
        from_one = w.0;
        to_end = (stop-at C q end t n (Broken k x m f) h).0;
        broken = breaks-how v.0;
        earliest-edge = λ s j a l. none-broken s j (earliest C q end t n (Broken k x m f) h s a l);
        least-rule = v.1;
        how = v.0;
      }

  -- every verdict that is not clean names a broken rule
  pub never-fine : (end t n : ℕ) → verdict_to C q end ≡ stop t n Fine → ⊥
  never-fine end t n h = broken-never C q t t n (broken-there end t n Fine h).1

  clean-edge : (t : ℕ) → ((j : ℕ) → BreaksAt C q t j → ⊥) → broken_at C q t ≡ clean
  clean-edge t h = go (broken_at C q t) refl
    where
      go : (v : Outcome) → broken_at C q t ≡ v → v ≡ clean
      go clean e = refl
      go (stop u n Fine) e = absurd (broken-never C q t u n e)
      go (stop u n (Broken k x m f)) e = absurd (h k (breaks-how (least-how t u n k x m f e).0))

  -- a clean one
  pub clean-means : (end : ℕ) → (verdict_to C q end ≡ clean) ↔ ((t j : ℕ) → 0 < t → t ≤ end → BreaksAt C q t j → ⊥)
  clean-means end = (
    λ h t j a l. none-broken t j ((clean-iff C q end).0 h t a l),
    λ h. (clean-iff C q end).1 (λ t a l. clean-edge t (λ j. h t j a l)),
  )

-- there is one verdict
pub one-verdict : (C : Chip) (q : Past) (end : ℕ) → Unique (λ (v : Outcome). v ≡ verdict_to C q end)
one-verdict C q end = one_answer (verdict_to C q end)
