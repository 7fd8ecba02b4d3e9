-- The edges of a recording one by one, with one record more: what a later record leaves as it was, the edges of a gap, and the edge of
-- a record.
-- Assumes nothing.
use Prim.Native.Nat.{ℕ, zero, suc, ◌+◌, ◌-◌, ◌≤◌, ◌<◌}
use native.Mathlib.Omega.{arith}
use native.Mathlib.Decide.{dec_lt, ℕ_discrete}
use mathlib.Core.Path.{◌≡◌, refl, sym, ap, ◌∙◌, subst}
use mathlib.Core.Logic.{⊎_elim}
use mathlib.Core.Bool.{Bool, true, false, cond}
use mathlib.Core.List.{[], ◌∷◌}
use lib.Dec.{ltb, leb}
use borrow.Author.Tests.{ltb-true, ltb-false, leb-true, leb-false, eq-eqb, ne_eqb}
use Rattle.answers.specs.declared.Break.{Break}
use Rattle.answers.specs.declared.Break.TheVariants.{Fine}
use Rattle.records.specs.declared.Record.{Record}
use Rattle.records.specs.declared.Command.TheVariants.{Ref}
use Rattle.chip.specs.declared.Chip.{Chip}
use Rattle.running.specs.declared.Late.{Late}
use Rattle.running.specs.Late.{why}
use Rattle.running.specs.Deadlines.{owing}
use Rattle.running.specs.Said.{late_at}
use Rattle.rules.specs.Past.{Past, edge, number, changes, asleep, is, latest, up_to}
use Rattle.answers.specs.Answer.{or_else, lowest}
use Rattle.rules.specs.Banks.{status}
use Rattle.rules.specs.Rules.{checks, change_checks, exit_checks, break_at}
use Rattle.rules.specs.Deadlines.{late, stayed, parted, rule24, rule25, rule28, rule31, awake_to, awake_at, owed_to, owed_at, since_ref}
use Rattle.rules.specs.Verdict.{clean, stop, keep, told, record_says, broken_at, verdict_to, Apart}
use Rattle.rules.specs.Down.{turned, down}
use Rattle.rules.proofs.Generic.{decide, broken-fine}
use Rattle.rules.proofs.UpTo.{up-to-all, up-to-skip, up-to-before, up_to_zero}
use Rattle.rules.proofs.Numbered.{keep-clean, told-clean, told-both, in_order, by_number, record-after}
use Rattle.rules.proofs.Clean.{broken, Clean}
use Rattle.rules.proofs.Debts.{gap_to, owed-now, since_at, gap_step}
use Rattle.rules.proofs.Sense.{verdict-next, skip-to, stays-to, clean-edges, clean-iff}
use Rattle.rules.proofs.Gap.{Due, now24, now25, now28, now31, now_any, late24-at, late25-at, late28-at, late31-at}

module _ (C : Chip) where
  -- ── A later record ────────────────────────────────────────────────────────────────────────

  module _ (r : Record) (p : Past) where
    late-same : (s : ℕ) → 0 < s → s < edge (r ∷ p) → rule24 C (r ∷ p) s ≡ rule24 C p s
    late-same s a l = ap (λ u. lowest (λ b. late C.most (status C b u (s - 1)) s) 8) (up-to-skip (s - 1) r p (omega arith))

    owed_same : (s : ℕ) → s < edge (r ∷ p) → rule25 C (r ∷ p) s ≡ rule25 C p s
    owed_same s l = ap (λ u. owing (owed_at C.trefi u s) (number (latest (is Ref) u))) (up-to-skip s r p l)

    stay-same : (s : ℕ) → 0 < s → s < edge (r ∷ p) → rule28 C (r ∷ p) s ≡ rule28 C p s
    stay-same s a l = ap (λ u. stayed C.nine (turned u) s) (up-to-skip (s - 1) r p (omega arith))

    parted-same : (s : ℕ) → 0 < s → s < edge (r ∷ p) → rule31 C (r ∷ p) s ≡ rule31 C p s
    parted-same s a l = ap (λ u. parted C.nine u s) (up-to-skip (s - 1) r p (omega arith))

    broken-same : (s : ℕ) → 0 < s → s < edge (r ∷ p) → broken_at C (r ∷ p) s ≡ broken_at C p s
    broken-same s a l =
        by_number C (r ∷ p) s
        ∙ rw (ne_eqb (edge (r ∷ p)) s (λ e. omega arith))
        (λ i. in_order (record_says (break_at (checks C)) p s) (told s 0 (late-same s a l i)) (told s 0 (owed_same s l i))
        (record_says (break_at (change_checks C)) p s) (told s 0 (stay-same s a l i)) (record_says (break_at (exit_checks C)) p s)
        (told s 0 (parted-same s a l i)))
        ∙ sym (by_number C p s)

    -- the edges before it are as they were
    pub verdict-same : (t : ℕ) → t < edge (r ∷ p) → verdict_to C (r ∷ p) t ≡ verdict_to C p t
    unfolding verdict_to
    verdict-same zero l = refl
    verdict-same (suc t) l = λ i. keep (verdict-same t (omega arith) i) (broken-same (suc t) (omega arith) l i)

  -- where no edge is broken no record is
  records-clean : (p : Past) → Apart p → ((s : ℕ) → 0 < s → s ≤ edge p → broken_at C p s ≡ clean) → Clean C p
  unfolding or_else
  records-clean [] a h = refl
  records-clean (r ∷ p) a h =
      let e = edge (r ∷ p) in
      let w = (keep-clean _ _ (sym (by_number C (r ∷ p) e) ∙ h e (omega arith) (omega arith))).0 in
      let now : break_at (checks C) r p ≡ Fine = told-clean e (number (r ∷ p)) _ (rw (eq-eqb (edge (r ∷ p)) (edge (r ∷ p)) refl) at w) in
      let old : broken C p ≡ Fine = records-clean p a.1 (λ s x y. sym (broken-same r p s x (omega arith)) ∙ h s x (omega arith)) in
      rw (old, now)

  pub clean-past : (p : Past) → Apart p → verdict_to C p (edge p) ≡ clean → Clean C p
  clean-past p apart z = records-clean p apart (clean-edges C p (edge p) z)

  -- clean up to an edge is clean up to each edge before it
  earlier : (p : Past) (u t : ℕ) → t ≤ u → verdict_to C p u ≡ clean → verdict_to C p t ≡ clean
  earlier p u t l z = (clean-iff C p t).1 (λ s a b. clean-edges C p u z s a (omega arith))

  pub clean-up-to : (u : ℕ) (p : Past) → Apart p → verdict_to C p u ≡ clean → Clean C (up_to u p)
  clean-up-to u [] apart z = refl
  clean-up-to u (r ∷ p) apart z = ⊎_elim
      (λ (y : leb (edge (r ∷ p)) u ≡ true). rw y (clean-past (r ∷ p) apart (earlier (r ∷ p) u (edge (r ∷ p)) (leb-true (edge (r ∷ p)) u y) z)))
      (λ (n : leb (edge (r ∷ p)) u ≡ false).
      rw n (clean-up-to u p apart.1 (sym (verdict-same r p u (leb-false (edge (r ∷ p)) u n)) ∙ z)))
      (decide (leb (edge (r ∷ p)) u))

  -- ── A gap ─────────────────────────────────────────────────────────────────────────────────

  -- after lo and before e, where only deadlines can pass: x is the first of them before hi
  pub gap-says :
      (q : Past) (f : ℕ → Break) (lo e hi : ℕ) (x : Late) → lo < e → e ≤ hi → ((t : ℕ) → lo < t → t < e → broken_at C q t ≡ told t 0 (f t))
      → Due f lo hi x → verdict_to C q lo ≡ clean → verdict_to C q (e - 1) ≡ cond (ltb x.at e) (stop x.at 0 (why x)) clean
  unfolding keep
  gap-says q f lo e hi x far near same d z = ⊎_elim
      (λ (y : ltb x.at e ≡ true).
      let m : x.at < e = ltb-true _ _ y in
      let w = d.hit (omega arith) in
      let a : lo < x.at = w.0 in
      rw y (stays-to C q x.at (e - 1) _ _ _ (omega arith)
      (verdict-next C q x.at (omega arith)
      ∙ ap (λ v. keep v (broken_at C q x.at)) (before (x.at - 1) (omega arith) (omega arith) (omega arith))
      ∙ same x.at a m
      ∙ ap (told x.at 0) w.1)))
      (λ (n : ltb x.at e ≡ false).
      let m : e ≤ x.at = ltb-false _ _ n in
      rw n (before (e - 1) (omega arith) (omega arith) (omega arith)))
      (decide (ltb x.at e))
    where
      before : (t : ℕ) → lo ≤ t → t < x.at → t < e → verdict_to C q t ≡ clean
      before t l m u =
          skip-to C q lo t l (λ w a b. same w a (omega arith) ∙ ap (told w 0) (d.none w a (omega arith) (omega arith))) z

  -- four deadlines at an edge, the first by number
  told-four : (t : ℕ) (x y d g : Break)
      → told t 0 (or_else x (or_else y (or_else d g))) ≡ keep (told t 0 x) (keep (told t 0 y) (keep (told t 0 d) (told t 0 g)))
  told-four t x y d g =
      told-both t 0 x (or_else y (or_else d g))
      ∙ ap (keep (told t 0 x)) (told-both t 0 y (or_else d g) ∙ ap (keep (told t 0 y)) (told-both t 0 d g))

  -- after p, of p itself or of p with one more record
  only-late :
      0 < C.trefi → (q p : Past) (t : ℕ) → edge p < t → up_to (t - 1) q ≡ p → up_to t q ≡ p
      → ((k : Record → Past → Break) → record_says k q t ≡ clean) → broken_at C q t ≡ told t 0 (now_any C p t)
  unfolding keep
  only-late z q p t l h g f =
      by_number C q t
      ∙ (λ i. in_order (f (break_at (checks C)) i) (told t 0 (late24-at C p q t l h i)) (told t 0 (late25-at C p z q t g i))
      (f (break_at (change_checks C)) i) (told t 0 (late28-at C p q t h i)) (f (break_at (exit_checks C)) i) (told t 0 (late31-at C p q t h i)))
      ∙ sym (told-four t (now24 C p t) (now25 C p t) (now28 C p t) (now31 C p t))

  pub late-after : 0 < C.trefi → (p : Past) (t : ℕ) → edge p < t → broken_at C p t ≡ told t 0 (now_any C p t)
  late-after z p t l = only-late z p p t l (up-to-all (t - 1) p (omega arith)) (up-to-all t p (omega arith)) (λ k. record-after k p t l)

  pub late-between :
      0 < C.trefi → (r : Record) (p : Past) (t : ℕ) → edge p < t → t < edge (r ∷ p) → broken_at C (r ∷ p) t ≡ told t 0 (now_any C p t)
  late-between z r p t l m =
      only-late z (r ∷ p) p t l (up-to-before r p t l (omega arith)) (up-to-skip t r p m ∙ up-to-all t p (omega arith))
      (λ k. rw (ne_eqb (edge (r ∷ p)) t (λ e. omega arith)) (record-after k p t l))

  -- ── The edge of a record ──────────────────────────────────────────────────────────────────

  -- rule 25 at the edge of the latest record
  pub owing-now : 0 < C.trefi → (p : Past) → rule25 C p (edge p) ≡ owing (owed_to C.trefi p) (number (latest (is Ref) p))
  owing-now z p =
      ap (λ u. owing (owed_at C.trefi u (edge p)) (number (latest (is Ref) u))) (up-to-all (edge p) p (omega arith))
      ∙ ap (λ o. owing o (number (latest (is Ref) p))) (owed-now z p)

  -- at an edge at which nothing is broken at most 16 are owed
  pub small-owed-at : 0 < C.trefi → (p : Past) → Apart p → (u : ℕ) → (0 < u → broken_at C p u ≡ clean) → owed_at C.trefi (up_to u p) u ≤ 16
  unfolding owed_to
  small-owed-at z p a zero h = rw (up_to_zero p a) (omega (arith, owed-now z []))
  small-owed-at z p a (suc u) h =
      let w = (keep-clean _ _ (keep-clean _ _ (keep-clean _ _ (sym (by_number C p (suc u)) ∙ h (omega arith))).1).1).0 in
      let fine = told-clean (suc u) 0 (rule25 C p (suc u)) w in
      ⊎_elim
      (λ (y : leb 17 (owed_at C.trefi (up_to (suc u) p) (suc u)) ≡ true). absurd (broken-fine (rw y at fine)))
      (λ (n : leb 17 (owed_at C.trefi (up_to (suc u) p) (suc u)) ≡ false). omega (arith, leb-false 17 (owed_at C.trefi (up_to (suc u) p) (suc u)) n))
      (decide (leb 17 (owed_at C.trefi (up_to (suc u) p) (suc u))))

  -- so after a clean past
  pub small-owed : 0 < C.trefi → (p : Past) → Apart p → verdict_to C p (edge p) ≡ clean → owed_to C.trefi p ≤ 16
  small-owed z p a h =
      let w = small-owed-at z p a (edge p) (λ l. clean-edges C p (edge p) h (edge p) l (omega arith)) in
      let e = ap (λ u. owed_at C.trefi u (edge p)) (up-to-all (edge p) p (omega arith)) in
      omega (arith, w, e, owed-now z p)

  -- what the record breaks, by its number, and which deadline passes there
  pub at-record :
      0 < C.trefi → (r : Record) (p : Past) → 1 ≤ r.step
      → broken_at C (r ∷ p) (edge (r ∷ p))
      ≡ in_order (told (edge (r ∷ p)) (number (r ∷ p)) (break_at (checks C) r p)) (told (edge (r ∷ p)) 0 (now24 C p (edge (r ∷ p))))
      (told (edge (r ∷ p)) 0 (owing (owed_to C.trefi (r ∷ p)) (number (latest (is Ref) (r ∷ p)))))
      (told (edge (r ∷ p)) (number (r ∷ p)) (break_at (change_checks C) r p)) (told (edge (r ∷ p)) 0 (now28 C p (edge (r ∷ p))))
      (told (edge (r ∷ p)) (number (r ∷ p)) (break_at (exit_checks C) r p)) (told (edge (r ∷ p)) 0 (now31 C p (edge (r ∷ p))))
  at-record z r p far =
      let e = edge (r ∷ p) in
      by_number C (r ∷ p) e
      ∙ rw (eq-eqb (edge (r ∷ p)) (edge (r ∷ p)) refl)
      (λ i. in_order (told e (number (r ∷ p)) (break_at (checks C) r p))
      (told e 0 (late24-at C p (r ∷ p) e (omega arith) (up-to-before r p e (omega arith) (omega arith)) i)) (told e 0 (owing-now z (r ∷ p) i))
      (told e (number (r ∷ p)) (break_at (change_checks C) r p))
      (told e 0 (late28-at C p (r ∷ p) e (up-to-before r p e (omega arith) (omega arith)) i)) (told e (number (r ∷ p)) (break_at (exit_checks C) r p))
      (told e 0 (late31-at C p (r ∷ p) e (up-to-before r p e (omega arith) (omega arith)) i)))

  -- ── Since the last REF ────────────────────────────────────────────────────────────────────

  fine31 : (p : Past) (u : ℕ) → broken_at C p u ≡ clean → rule31 C p u ≡ Fine
  fine31 p u k =
      let b = (keep-clean _ _ (keep-clean _ _ (keep-clean _ _ (sym (by_number C p u) ∙ k)).1).1).1 in
      told-clean u 0 (rule31 C p u) (keep-clean _ _ (keep-clean _ _ (keep-clean _ _ b).1).1).1

  not-parted : (p : Past) (t : ℕ) → now31 C p t ≡ Fine → since_ref p t ≤ C.nine
  not-parted p t w = ⊎_elim
      (λ (y : ltb C.nine (since_ref p t) ≡ true). absurd (broken-fine (rw y at w)))
      (λ (n : ltb C.nine (since_ref p t) ≡ false). ltb-false _ _ n)
      (decide (ltb C.nine (since_ref p t)))

  -- a record's edge counts before it, and a REF then begins anew
  since-record : (r : Record) (p : Past) → since_ref (r ∷ p) (edge (r ∷ p)) ≤ since_ref p (edge (r ∷ p))
  since-record r p =
      let m : edge (r ∷ p) - edge p ≡ r.step = omega arith in
      let z : edge (r ∷ p) - edge (r ∷ p) ≡ 0 = omega arith in
      go (is Ref (r ∷ p)) (asleep (r ∷ p)) (gap_step r p)
      (since_at (r ∷ p) (edge (r ∷ p)) ∙ ap (λ x. gap_to (r ∷ p) + cond (asleep (r ∷ p)) 0 x) z)
      (since_at p (edge (r ∷ p)) ∙ ap (λ x. gap_to p + cond (asleep p) 0 x) m)
    where
      go : (x y : Bool) → cond x 0 (gap_to p + cond (asleep p) 0 r.step) ≡ gap_to (r ∷ p)
          → since_ref (r ∷ p) (edge (r ∷ p)) ≡ gap_to (r ∷ p) + cond y 0 0 → since_ref p (edge (r ∷ p)) ≡ gap_to p + cond (asleep p) 0 r.step
          → since_ref (r ∷ p) (edge (r ∷ p)) ≤ since_ref p (edge (r ∷ p))
      go true true g s o = omega arith
      go true false g s o = omega arith
      go false true g s o = omega arith
      go false false g s o = omega arith

  -- at an edge at which nothing is broken the last REF is not too far back
  pub near-ref-at : (p : Past) → Apart p → (u : ℕ) → (0 < u → broken_at C p u ≡ clean) → since_ref (up_to u p) u ≤ C.nine
  unfolding since_ref awake_at awake_to asleep
  near-ref-at [] a u h = elim (dec_lt 0 u) [
    | yes l ↦ not-parted [] u (fine31 [] u (h l))
    | no l ↦ omega arith
  ]
  near-ref-at (r ∷ p) a u h = ⊎_elim
      (λ (y : leb (edge (r ∷ p)) u ≡ true). rw y (here (leb-true (edge (r ∷ p)) u y)))
      (λ (n : leb (edge (r ∷ p)) u ≡ false). rw n (near-ref-at p a.1 u (λ l. sym (broken-same r p u l (leb-false (edge (r ∷ p)) u n)) ∙ h l)))
      (decide (leb (edge (r ∷ p)) u))
    where
      far : 1 ≤ r.step
      far = a.0

      here : edge (r ∷ p) ≤ u → since_ref (r ∷ p) u ≤ C.nine
      here l =
          let w = fine31 (r ∷ p) u (h (omega arith)) in
          elim (ℕ_discrete (edge (r ∷ p)) u) [
            | yes q ↦ rw (← q) (omega (
              arith,
              since-record r p,
              not-parted p (edge (r ∷ p))
                  (sym (late31-at C p (r ∷ p) (edge (r ∷ p)) (up-to-before r p (edge (r ∷ p)) (omega arith) (omega arith))) ∙ (let P : ℕ → Type 0 = λ x. rule31 C (r ∷ p) x ≡ Fine in subst P (sym q) w)),
            ))
            | no q ↦ not-parted (r ∷ p) u (sym (late31-at C (r ∷ p) (r ∷ p) u (up-to-all (u - 1) (r ∷ p) (omega arith))) ∙ w)
          ]

  -- so after a clean past
  pub near-ref : (p : Past) → Apart p → verdict_to C p (edge p) ≡ clean → gap_to p ≤ C.nine
  near-ref p a h =
      let w = near-ref-at p a (edge p) (λ l. clean-edges C p (edge p) h (edge p) l (omega arith)) in
      let e = ap (λ u. since_ref u (edge p)) (up-to-all (edge p) p (omega arith)) in
      omega (arith, w, e, since_at p (edge p))

  -- after a clean past a stay in power-down is not too long
  pub near-stay : (p : Past) → Apart p → verdict_to C p (edge p) ≡ clean → down p ≡ true → edge p ≤ edge (turned p) + C.nine
  near-stay [] a h y = omega arith
  near-stay (r ∷ p) a h y = ⊎_elim
      (λ (c : changes (r ∷ p) ≡ true). rw c (omega arith))
      (λ (n : changes (r ∷ p) ≡ false).
      let d : down p ≡ true = rw n at y in
      let far : 1 ≤ r.step = a.0 in
      let old : verdict_to C p (edge p) ≡ clean = sym (verdict-same r p (edge p) (omega arith)) ∙ (clean-iff C (r ∷ p) (edge p)).1 (λ s u v. clean-edges C (r ∷ p) (edge (r ∷ p)) h s u (omega arith)) in
      let l = near-stay p a.1 old d in
      rw n (elim (dec_lt (edge (turned p) + C.nine) (edge (r ∷ p))) [
        | yes m ↦ absurd (passed n d l m)
        | no m ↦ omega arith
      ]))
      (decide (changes (r ∷ p)))
    where
      passed : changes (r ∷ p) ≡ false → down p ≡ true → edge p ≤ edge (turned p) + C.nine → edge (turned p) + C.nine < edge (r ∷ p) → ⊥
      passed n d l m =
          let t = edge (turned p) + C.nine + 1 in
          let k = clean-edges C (r ∷ p) (edge (r ∷ p)) h t (omega arith) (omega arith) in
          let w = (keep-clean _ _ (keep-clean _ _ (keep-clean _ _ (keep-clean _ _ (sym (by_number C (r ∷ p) t) ∙ k)).1).1).1).1 in
          let f = told-clean t 0 (rule28 C (r ∷ p) t) (keep-clean _ _ w).0 in
          let g : stayed C.nine (turned p) (edge (turned p) + C.nine + 1) ≡ Fine = ap (λ u. stayed C.nine (turned u) t) (sym (up-to-before r p t (omega arith) (omega arith))) ∙ f in
          broken-fine (rw (d, eq-eqb (edge (turned p) + C.nine + 1) (edge (turned p) + C.nine + 1) refl) at g)

-- a deadline that is not before e passes at e, or not
pub late-at : (f : ℕ → Break) (lo e hi : ℕ) (x : Late) → lo < e → e < hi → e ≤ x.at → Due f lo hi x → late_at e x ≡ f e
late-at f lo e hi x l h m d = elim (ℕ_discrete x.at e) [
  | yes q ↦ rw (eq-eqb x.at e q) (sym (d.hit (omega arith)).1 ∙ ap f q)
  | no q ↦ rw (ne_eqb x.at e q) (sym (d.none e l h (omega arith)))
]
