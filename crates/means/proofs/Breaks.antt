-- A check says that a rule is broken exactly where it is.
-- Assumes nothing.
use Prim.Native.Nat.{ℕ, ◌-◌, ◌≤◌, ◌<◌}
use native.Mathlib.Omega.{arith}
use mathlib.Core.Path.{◌≡◌, refl, ap, ◌∙◌}
use mathlib.Core.Logic.{⊎_elim}
use mathlib.Core.Bool.{Bool, true, false, ◌||◌}
use mathlib.Core.List.{[], ◌∷◌}
use Rattle.laws.specs.Among.{Among, first, next}
use Rattle.answers.specs.declared.Break.{Break}
use Rattle.answers.specs.declared.Break.TheVariants.{Fine, Broken}
use Rattle.records.specs.declared.Record.{Record}
use Rattle.records.specs.declared.Command.TheVariants.{Mrs, Ref, Act, Rd, Sre, Srx}
use Rattle.chip.specs.declared.Chip.{Chip}
use Rattle.rules.specs.Past.{Past, edge, number, is, ◌∈◌, greatest}
use Rattle.rules.specs.Banks.{start}
use Rattle.rules.specs.Search.{asking}
use Rattle.rules.specs.Rules.{Row, r4, r6, r7, r9, r10, r11, r12r, r12w, r13, r14, r15, r16, r17, r18, r19, r20, r21, r22, r26, r27, r29, r30, rule1, rule2, rule3, rule5, rule8, rule23, since, fourth, spacing, spaced}
use Rattle.rules.specs.Verdict.{of_record, edge_checks}
use Rattle.rules.proofs.Generic.{decide, broken-fine, short-fine, fine-kept}
use Rattle.rules.proofs.Events.{never}
use Rattle.rules.proofs.Clean.{lowest-fine, is-other, act-not-all}
use Rattle.rules.proofs.Starts.{since-kept}
use Rattle.means.specs.Partners.{Latest, Fourth}
use Rattle.means.specs.Pairs.{speaks_of, may_find, Lacks, code, registers, reset, Closing-kind, own, any, Pair, other-change, in-the-way, lacking, too-soon, precharging, five-acts, no-refresh}
use Rattle.means.specs.Breaks.{Breaks, breaks1, breaks2, breaks3, breaks_row, breaks5, breaks8, breaks23}
use Rattle.means.proofs.Partners.{latest-one, fourth-one}
use Rattle.means.proofs.Least.{Says, says_row, says1, says2, says3, says5, says8, says23, BreaksRecord}

module _ (C : Chip) (r : Record) (p : Past) where
  abbrev e : ℕ
  e = edge (r ∷ p)

  -- a rule with its pair is broken
  pub broken-by : {k n m f : ℕ} → Pair C r p n m f k → Breaks C r p k
  broken-by (other-change y z w) = breaks1 y
  broken-by (in-the-way w) = breaks2 w.bank w.below w.speaks w.in-the-way
  broken-by (lacking w y z) = breaks3 w
  broken-by (too-soon x w) =
      breaks_row x w.later w.event w.within w.earlier (omega (arith, w.too_few, w.found-is, w.needed-is))
  broken-by (precharging w) =
      breaks5 w.kind w.looks w.event w.latest-start.event w.latest-start.kind (omega (arith, w.too_few, w.found-is, w.needed-is))
  broken-by (five-acts w) = breaks8 w.later w.event w.fourth-back (omega (arith, w.too_few, w.found-is, w.needed-is))
  broken-by (no-refresh w) = breaks23 w.later w.event w.latest-of w.woke

  -- ── A broken rule's check says so ─────────────────────────────────────────────────────────

  said : {k : ℕ} (g : Record → Past → Break) → Among (of_record g) (edge_checks C) → Says C k g → (g r p ≡ Fine → ⊥) → BreaksRecord C r p k
  said {k} g i s bad = go (g r p) refl
    where
      go : (x : Break) → g r p ≡ x → BreaksRecord C r p k
      go Fine z = absurd (bad z)
      go (Broken j n m f) z =
          record { check = g; of = i; partner = n; needed = m; found = f; says = z ∙ ap (λ u. Broken u n m f) (s r p j n m f z).0 }

  row-among : (x : Row) → Among (of_record (spaced C x)) (edge_checks C)
  row-among r4 = search (first, next) depth 30
  row-among r6 = search (first, next) depth 30
  row-among r7 = search (first, next) depth 30
  row-among r9 = search (first, next) depth 30
  row-among r10 = search (first, next) depth 30
  row-among r11 = search (first, next) depth 30
  row-among r12r = search (first, next) depth 30
  row-among r12w = search (first, next) depth 30
  row-among r13 = search (first, next) depth 30
  row-among r14 = search (first, next) depth 30
  row-among r15 = search (first, next) depth 30
  row-among r16 = search (first, next) depth 30
  row-among r17 = search (first, next) depth 30
  row-among r18 = search (first, next) depth 30
  row-among r19 = search (first, next) depth 30
  row-among r20 = search (first, next) depth 30
  row-among r21 = search (first, next) depth 30
  row-among r22 = search (first, next) depth 30
  row-among r26 = search (first, next) depth 40
  row-among r27 = search (first, next) depth 40
  row-among r29 = search (first, next) depth 40
  row-among r30 = search (first, next) depth 40

  row-bad : (x : Row) → (spacing C x).to (r ∷ p) ≡ true → (s : Past) → s ∈ p → (spacing C x).from (r ∷ p) s ≡ true → e - edge s < (spacing C x).need s
      → spaced C x r p ≡ Fine → ⊥
  row-bad x y s i z l h =
      let w = fine-kept edge (spacing C x).name (asking ((spacing C x).from (r ∷ p)) (spacing C x).need) e p (rw y at h) s i in
      let n : (spacing C x).need s ≤ e - edge s = rw z at w in
      omega arith

  way-bad : (b : ℕ) → b < 8 → speaks_of C r p b ≡ true → may_find C r p b ≡ false → rule2 C r p ≡ Fine → ⊥
  way-bad b l y z h = broken-fine (rw (y, z) at (lowest-fine _ 8 b h l))

  lack-bad : {found : ℕ} → Lacks C r p found → rule3 C r p ≡ Fine → ⊥
  lack-bad (code y z) h = broken-fine (rw (y, z) at h)
  lack-bad (registers y z) h = broken-fine (rw (is-other Act Mrs (r ∷ p) (λ u. omega arith) y, y, z) at h)
  lack-bad (reset y z) h = broken-fine (rw (is-other Rd Mrs (r ∷ p) (λ u. omega arith) y, is-other Rd Act (r ∷ p) (λ u. omega arith) y, y, z) at h)

  start-bad : (kind : Past → Bool) (s : Past) → s ∈ p → kind s ≡ true → e - start C s < C.trp → since C e (greatest kind (start C) p) ≡ Fine → ⊥
  start-bad kind s i y l h = omega (arith, since-kept C kind e p h s i y)

  precharge-bad : (kind : Past → Bool) → Closing-kind C r p kind → (s : Past) → s ∈ p → kind s ≡ true → e - start C s < C.trp → rule5 C r p ≡ Fine → ⊥
  precharge-bad kind (own y) s i z l h = start-bad kind s i z l (rw y at h)
  precharge-bad kind (any y) s i z l h = ⊎_elim
      (λ (t : is Act (r ∷ p) ≡ true). never y (act-not-all (r ∷ p) t))
      (λ (t : is Act (r ∷ p) ≡ false). start-bad kind s i z l (rw (t, y) at h))
      (decide (is Act (r ∷ p)))

  fourth-bad : is Act (r ∷ p) ≡ true → (s : Past) → Fourth p s → e - edge s < C.tfaw → rule8 C r p ≡ Fine → ⊥
  fourth-bad y s w l h = go s w.6.kind l (rw (y, fourth-one p s w) at h)
    where
      go : (s : Past) → is Act s ≡ true → e - edge s < C.tfaw → fourth C e s ≡ Fine → ⊥
      go [] a l z = never a refl
      go (q ∷ s) a l z = let n = (short-fine 8 e (edge (q ∷ s)) (number (q ∷ s)) C.tfaw Fine z).0 in omega arith

  woken-bad : is Sre (r ∷ p) ≡ true → (s : Past) → Latest (λ t. is Srx t || is Ref t) p s → is Srx s ≡ true → rule23 C r p ≡ Fine → ⊥
  woken-bad y s w z h = broken-fine (rw (latest-one (λ t. is Srx t || is Ref t) p s w, y, z) at h)

  pub says_so : {k : ℕ} → Breaks C r p k → BreaksRecord C r p k
  says_so (breaks1 y) = said (rule1 C) first (says1 C) (λ h. broken-fine (rw y at h))
  says_so (breaks2 b l y z) = said (rule2 C) (search (first, next)) (says2 C) (way-bad b l y z)
  says_so (breaks3 w) = said (rule3 C) (search (first, next)) (says3 C) (lack-bad w)
  says_so (breaks_row x y s i z l) = said (spaced C x) (row-among x) (says_row C x) (row-bad x y s i z l)
  says_so (breaks5 kind c s i y l) = said (rule5 C) (search (first, next) depth 30) (says5 C) (precharge-bad kind c s i y l)
  says_so (breaks8 y s w l) = said (rule8 C) (search (first, next) depth 30) (says8 C) (fourth-bad y s w l)
  says_so (breaks23 y s w z) = said (rule23 C) (search (first, next) depth 30) (says23 C) (woken-bad y s w z)
