-- The rules of an edge stand by number, each speaks of its own rule alone, and so the first that is broken is the least.
-- Assumes nothing.
use Prim.Native.Nat.{ℕ, ◌≤◌}
use native.Mathlib.Omega.{arith}
use mathlib.Core.Path.{◌≡◌, refl, sym, ◌∙◌, subst}
use mathlib.Core.Logic.{⊎_elim}
use mathlib.Core.Bool.{true, false}
use mathlib.Core.List.{List, [], ◌∷◌}
use lib.Dec.{eqb, leb}
use borrow.Author.Tests.{eqb-true, leb-true}
use Rattle.laws.specs.Among.{Among, first, next}
use Rattle.answers.specs.declared.Break.{Break}
use Rattle.answers.specs.declared.Break.TheVariants.{Fine, Broken}
use Rattle.records.specs.declared.Record.{Record}
use Rattle.chip.specs.declared.Chip.{Chip}
use Rattle.rules.specs.Past.{Past, edge, number, ◌∈◌, here, there}
use Rattle.rules.specs.Rules.{Row, r4, r6, r7, r9, r10, r11, r12r, r12w, r13, r14, r15, r16, r17, r18, r19, r20, r21, r22, r26, r27, r29, r30, spacing, spaced}
use Rattle.rules.specs.Deadlines.{rule24, rule25, rule28, rule31}
use Rattle.rules.specs.Verdict.{Outcome, clean, stop, keep, told, Check, of_record, deadline, record_says, check_says, first_of, edge_checks, broken_at}
use Rattle.rules.proofs.Generic.{decide, broken-fine}
use Rattle.rules.proofs.Numbered.{stop-clean, keep-clean}
use Rattle.means.specs.Means.{How, record-did, limit-passed, debt-grew, stay-passed, gap-passed}
use Rattle.means.proofs.Least.{Says, says1, says2, says3, says5, says8, says23, says_row}
use Rattle.means.proofs.Passing.{pair24, pair25, pair28, pair31}

-- ── What one check says ─────────────────────────────────────────────────────────────────────

told-from : (t n : ℕ) (b : Break) (u m k x y f : ℕ) → told t n b ≡ stop u m (Broken k x y f) → (b ≡ Broken k x y f) × (m ≡ n)
told-from t n Fine u m k x y f h = stop-clean (sym h)
told-from t n (Broken a b c d) u m k x y f h = (cc, cc)

told-never : (t n : ℕ) (b : Break) (u m : ℕ) → told t n b ≡ stop u m Fine → ⊥
told-never t n Fine u m h = stop-clean (sym h)
told-never t n (Broken a b c d) u m h = let z : Broken a b c d ≡ Fine = cc in broken-fine z

-- what a record breaks at t is broken by a record that stands there
record-event : (g : Record → Past → Break) (p : Past) (t u n k x m f : ℕ) → record_says g p t ≡ stop u n (Broken k x m f)
    → (r : Record) × (s : Past) × (r ∷ s ∈ p) × (edge (r ∷ s) ≡ t) × (n ≡ number (r ∷ s)) × (g r s ≡ Broken k x m f)
record-event g [] t u n k x m f h = stop-clean (sym h)
record-event g (r ∷ p) t u n k x m f h = ⊎_elim
    (λ (y : eqb (edge (r ∷ p)) t ≡ true).
    let w = told-from t (number (r ∷ p)) (g r p) u n k x m f (rw y at h) in
    (r, p, here, eqb-true _ _ y, w.1, w.0))
    (λ (z : eqb (edge (r ∷ p)) t ≡ false).
    let w = record-event g p t u n k x m f (rw z at h) in
    (w.0, w.1, there w.2, w.3, w.4, w.5))
    (decide (eqb (edge (r ∷ p)) t))

record-never : (g : Record → Past → Break) (p : Past) (t u n : ℕ) → record_says g p t ≡ stop u n Fine → ⊥
record-never g [] t u n h = stop-clean (sym h)
record-never g (r ∷ p) t u n h = ⊎_elim
    (λ (y : eqb (edge (r ∷ p)) t ≡ true). told-never t (number (r ∷ p)) (g r p) u n (rw y at h))
    (λ (z : eqb (edge (r ∷ p)) t ≡ false). record-never g p t u n (rw z at h))
    (decide (eqb (edge (r ∷ p)) t))

check-never : (c : Check) (p : Past) (t u n : ℕ) → check_says c p t ≡ stop u n Fine → ⊥
check-never (of_record g) p t u n h = record-never g p t u n h
check-never (deadline g) p t u n h = told-never t 0 (g p t) u n h

-- a stop names a broken rule
first-never : (cs : List Check) (p : Past) (t u n : ℕ) → first_of cs p t ≡ stop u n Fine → ⊥
unfolding keep
first-never [] p t u n h = stop-clean (sym h)
first-never (c ∷ cs) p t u n h = go (check_says c p t) refl h (first-never cs p t u n)
  where
    go : (v : Outcome) → check_says c p t ≡ v → keep v (first_of cs p t) ≡ stop u n Fine → (first_of cs p t ≡ stop u n Fine → ⊥) → ⊥
    go clean e g ih = ih g
    go (stop w m b) e g ih = check-never c p t u n (e ∙ g)

pub broken-never : (C : Chip) (p : Past) (t u n : ℕ) → broken_at C p t ≡ stop u n Fine → ⊥
unfolding broken_at
broken-never C p t u n h = first-never (edge_checks C) p t u n h

-- where nothing is said no check says anything
first-clean : {c : Check} {cs : List Check} (p : Past) (t : ℕ) → Among c cs → first_of cs p t ≡ clean → check_says c p t ≡ clean
first-clean p t first h = (keep-clean _ _ h).0
first-clean p t (next i) h = first-clean p t i (keep-clean _ _ h).1

pub broken-clean : (C : Chip) (c : Check) (p : Past) (t : ℕ) → broken_at C p t ≡ clean → Among c (edge_checks C) → check_says c p t ≡ clean
unfolding broken_at
broken-clean C c p t h i = first-clean p t i h

-- ── By number ───────────────────────────────────────────────────────────────────────────────

module _ (C : Chip) (q : Past) where
  -- the check c speaks of rule k alone, and names its pair
  abbrev Speaks : ℕ → Check → Type 0
  Speaks k c = (t u n j x m f : ℕ) → check_says c q t ≡ stop u n (Broken j x m f) → (j ≡ k) × How C q t n x m f k

  of-record : {k : ℕ} {g : Record → Past → Break} → Says C k g → Speaks k (of_record g)
  of-record {g = g} s t u n j x m f h =
      let w = record-event g q t u n j x m f h in
      let v = s w.0 w.1 j x m f w.5 in
      (v.0, record-did w.2 w.3 w.4 v.1)

  of-limit : Speaks 24 (deadline (rule24 C))
  of-limit t u n j x m f h =
      let d = told-from t 0 (rule24 C q t) u n j x m f h in
      let w = pair24 C q t j x m f d.0 in
      (w.0, limit-passed d.1 w.1)

  of-debt : Speaks 25 (deadline (rule25 C))
  of-debt t u n j x m f h =
      let d = told-from t 0 (rule25 C q t) u n j x m f h in
      let w = pair25 C q t j x m f d.0 in
      (w.0, debt-grew d.1 w.1)

  of-stay : Speaks 28 (deadline (rule28 C))
  of-stay t u n j x m f h =
      let d = told-from t 0 (rule28 C q t) u n j x m f h in
      let w = pair28 C q t j x m f d.0 in
      (w.0, stay-passed d.1 w.1)

  of-gap : Speaks 31 (deadline (rule31 C))
  of-gap t u n j x m f h =
      let d = told-from t 0 (rule31 C q t) u n j x m f h in
      let w = pair31 C q t j x m f d.0 in
      (w.0, gap-passed d.1 w.1)

  -- the checks speak of rules from k on, by number
  data Ordered : ℕ → List Check → Type 0 where
    none : {k : ℕ} → Ordered k []
    also : {k : ℕ} {c : Check} {cs : List Check} (j : ℕ) → leb k j ≡ true → Speaks j c → Ordered j cs → Ordered k (c ∷ cs)

  row : (x : Row) → Speaks (spacing C x).name (of_record (spaced C x))
  row x = of-record (says_row C x)

  ordered : Ordered 1 (edge_checks C)
  ordered =
      also 1 refl (of-record (says1 C))
      (also 2 refl (of-record (says2 C))
      (also 3 refl (of-record (says3 C))
      (also 4 refl (row r4)
      (also 5 refl (of-record (says5 C))
      (also 6 refl (row r6)
      (also 7 refl (row r7)
      (also 8 refl (of-record (says8 C))
      (also 9 refl (row r9)
      (also 10 refl (row r10)
      (also 11 refl (row r11)
      (also 12 refl (row r12r)
      (also 12 refl (row r12w)
      (also 13 refl (row r13)
      (also 14 refl (row r14)
      (also 15 refl (row r15)
      (also 16 refl (row r16)
      (also 17 refl (row r17)
      (also 18 refl (row r18)
      (also 19 refl (row r19)
      (also 20 refl (row r20)
      (also 21 refl (row r21)
      (also 22 refl (row r22)
      (also 23 refl (of-record (says23 C))
      (also 24 refl of-limit
      (also 25 refl of-debt
      (also 26 refl (row r26)
      (also 27 refl (row r27)
      (also 28 refl of-stay
      (also 29 refl (row r29)
      (also 30 refl (row r30)
      (also 31 refl of-gap
      none)))))))))))))))))))))))))))))))

  module _ (t : ℕ) where
    -- no check of the list breaks a rule below k
    abbrev pub NoneBelow : (k : ℕ) → List Check → Type 0
    NoneBelow k cs = (c : Check) (u n j a b d : ℕ) → Among c cs → check_says c q t ≡ stop u n (Broken j a b d) → k ≤ j

    above : {k : ℕ} {cs : List Check} → Ordered k cs → NoneBelow k cs
    above (none {k = k}) c u n j a b d x7 h = elim x7 [ ]
    above (also i l s o) c u n j a b d first h = let w = (s t _ _ _ _ _ _ h).0 in omega (arith, leb-true)
    above (also i l s o) c u n j a b d (next e) h = let w = above o c u n j a b d e h in omega (arith, leb-true)

    past-clean : {k : ℕ} {c : Check} {cs : List Check} → check_says c q t ≡ clean → NoneBelow k cs → NoneBelow k (c ∷ cs)
    past-clean z w h u n j a b d first e = stop-clean (sym e ∙ z)
    past-clean z w h u n j a b d (next i) e = w h u n j a b d i e

    past-own : {j : ℕ} {c : Check} {cs : List Check} → Speaks j c → Ordered j cs → NoneBelow j (c ∷ cs)
    past-own s o h u n i a b d first e = let w = (s t _ _ _ _ _ _ e).0 in omega arith
    past-own s o h u n i a b d (next e) g = above o h u n i a b d e g

    -- the first break in the list is that of the least rule
    first-break : {i u n k x m f : ℕ} {cs : List Check} → Ordered i cs → first_of cs q t ≡ stop u n (Broken k x m f) → How C q t n x m f k × NoneBelow k cs
    unfolding keep
    first-break none h = stop-clean (sym h)
    first-break {u = u} {n = n} {k = k} {x = x} {m = m} {f = f} (also {c = c} {cs = cs} j l s o) h = go (check_says c q t) refl h (first-break o)
      where
        go : (v : Outcome) → check_says c q t ≡ v → keep v (first_of cs q t) ≡ stop u n (Broken k x m f)
            → (first_of cs q t ≡ stop u n (Broken k x m f) → How C q t n x m f k × NoneBelow k cs) → How C q t n x m f k × NoneBelow k (c ∷ cs)
        go clean e g ih = let w = ih g in (w.0, past-clean e w.1)
        go (stop a b d) e g ih =
            let own = s t u n k x m f (e ∙ g) in
            let same : j ≡ k = sym own.0 in
            (subst (How C q t n x m f) same own.1, subst (λ i. NoneBelow i (c ∷ cs)) same (past-own s o))

    pub broken-least : {u n k x m f : ℕ} → broken_at C q t ≡ stop u n (Broken k x m f) → How C q t n x m f k × NoneBelow k (edge_checks C)
    unfolding broken_at
    broken-least h = first-break ordered h
