-- Verdicts that no recording has: before the edge an earlier one is broken, by 31 or 25.
-- Assumes nothing.
use Prim.Native.Nat.{ℕ, ◌+◌, ◌-◌, ◌*◌, ◌/◌, ◌≤◌, ◌<◌}
use native.Mathlib.Nat.{mul_assoc, le-div_iff_mul-le}
use native.Mathlib.Omega.{arith}
use native.Mathlib.Decide.{dec_lt}
use mathlib.Core.Path.{◌≡◌, refl, ap, ◌∙◌}
use mathlib.Core.Bool.{Bool, true, false, cond, ◌||◌}
use lib.Dec.{eqb}
use Rattle.answers.specs.declared.Break.TheVariants.{Broken}
use Rattle.records.specs.declared.Record.{Record}
use Rattle.records.specs.declared.Command.TheVariants.{Ref, Pde}
use Rattle.units.specs.Round.{down as rounded}
use Rattle.units.proofs.Rounding.{down-greatest}
use Rattle.header.specs.declared.Header.{Header}
use Rattle.chip.specs.declared.Chip.{Chip}
use Rattle.chip.specs.Chip.{chip_of}
use Rattle.rules.specs.Past.{Past, edge, number, changes, asleep, is, latest, up_to}
use Rattle.rules.specs.Banks.{act_on}
use Rattle.rules.specs.Rules.{Row, r4, r6, r7, r9, r10, r11, r12r, r12w, r13, r14, r15, r16, r17, r18, r19, r20, r21, r22, r26, r27, r29, r30, spacing}
use Rattle.rules.specs.Deadlines.{awake_to, awake_at, since_ref}
use Rattle.rules.specs.Down.{turned, down}
use Rattle.rules.specs.Verdict.{clean, stop, broken_at, verdict_to, Apart}
use Rattle.rules.proofs.Events.{never}
use Rattle.rules.proofs.Clean.{Clean}
use Rattle.rules.proofs.Facts.{sound}
use Rattle.rules.proofs.Debts.{gap_to, since_at, owed-none-at}
use Rattle.rules.proofs.Refreshed.{Unrefreshed, down-unrefreshed, busy-unrefreshed}
use Rattle.rules.proofs.Sense.{clean-iff, earliest}
use Rattle.rules.proofs.UpTo.{up-to-edge, apart-up-to}
use Rattle.rules.proofs.Edges.{clean-up-to, small-owed-at, near-ref-at}
use Rattle.means.specs.Pairs.{Pair, other-change, in-the-way, lacking, too-soon, precharging, five-acts, no-refresh}
use Rattle.means.specs.Unseen.{Unseen}
use Rattle.means.specs.Means.{How, record-did, limit-passed, debt-grew, stay-passed, gap-passed}
use Rattle.means.proofs.Partners.{latest-one}
use Rattle.means.proofs.Means.{broken-means}

-- ── Which rules are deadlines ───────────────────────────────────────────────────────────────

abbrev passes : ℕ → Bool
passes k = eqb k 24 || (eqb k 25 || (eqb k 28 || eqb k 31))

module _ (C : Chip) where
  row-no : (x : Row) → passes (spacing C x).name ≡ false
  row-no r4 = refl
  row-no r6 = refl
  row-no r7 = refl
  row-no r9 = refl
  row-no r10 = refl
  row-no r11 = refl
  row-no r12r = refl
  row-no r12w = refl
  row-no r13 = refl
  row-no r14 = refl
  row-no r15 = refl
  row-no r16 = refl
  row-no r17 = refl
  row-no r18 = refl
  row-no r19 = refl
  row-no r20 = refl
  row-no r21 = refl
  row-no r22 = refl
  row-no r26 = refl
  row-no r27 = refl
  row-no r29 = refl
  row-no r30 = refl

  pair-no : {r : Record} {p : Past} {x m f k : ℕ} → Pair C r p x m f k → passes k ≡ false
  pair-no (other-change y n c) = refl
  pair-no (in-the-way w) = refl
  pair-no (lacking l n c) = refl
  pair-no (too-soon x w) = row-no x
  pair-no (precharging w) = refl
  pair-no (five-acts w) = refl
  pair-no (no-refresh w) = refl

-- the awake clock was one less at the edge before, if that
awake-before : (p : Past) (t : ℕ) → edge p ≤ t - 1 → awake_at p t ≤ awake_at p (t - 1) + 1
unfolding awake_at
awake-before p t l = go (asleep p)
  where
    go : (s : Bool) → awake_to p + cond s 0 (t - edge p) ≤ awake_to p + cond s 0 (t - 1 - edge p) + 1
    go true = omega arith
    go false = omega arith

-- ── Before the broken edge ──────────────────────────────────────────────────────────────────

module _ (C : Chip) (q : Past) (apart : Apart q) (end t n k x m f : ℕ) (broken : verdict_to C q end ≡ stop t n (Broken k x m f)) where
  -- the records up to the edge before it
  abbrev p : Past
  p = up_to (t - 1) q

  how : How C q t n x m f k
  how = (broken-means C q apart end t n k x m f broken).how

  first : 1 ≤ t
  first = (broken-means C q apart end t n k x m f broken).from_one

  fine : 0 < t - 1 → broken_at C q (t - 1) ≡ clean
  fine l = earliest C q end t n (Broken k x m f) broken (t - 1) l (omega (arith, first))

  tidy : Clean C p
  tidy = clean-up-to C (t - 1) q apart ((clean-iff C q (t - 1)).1 (λ s a l. earliest C q end t n (Broken k x m f) broken s a (omega (arith, first))))

  close : since_ref p (t - 1) ≤ C.nine
  close = near-ref-at C q apart (t - 1) fine

  -- no REF since an event that was nine intervals ago
  too_far : (s : Past) (most : ℕ) → Unrefreshed p s → edge s + most + 1 ≡ t → C.nine ≤ most → ⊥
  too_far s most u e l =
      let v : since_ref p (t - 1) ≡ gap_to p + (t - 1 - edge p) = since_at p (t - 1) ∙ ap (λ z. gap_to p + cond z 0 (t - 1 - edge p)) u.1 in
      omega (arith, v, u.0, e, close, up-to-edge (t - 1) q)

  never-28 : k ≡ 28 → ⊥
  never-28 e = go how e
    where
      go : {j : ℕ} → How C q t n x m f j → j ≡ 28 → ⊥
      go (record-did i l g w) h = never (ap passes h) (pair-no C w)
      go (limit-passed g w) h = omega arith
      go (debt-grew g w) h = omega arith
      go (gap-passed g w) h = omega arith
      go (stay-passed g w) h =
          let s = latest-one changes p w.event w.latest-of in
          let d : down p ≡ true = ap (is Pde) s ∙ w.entered in
          too_far (turned p) C.nine (down-unrefreshed C p (apart-up-to (t - 1) q apart) tidy d) (ap (λ v. edge v + C.nine + 1) s ∙ w.passed) (omega arith)

  -- where the greatest t_ras is not shorter than nine intervals, as of a hot part
  never-24 : C.nine ≤ C.most → k ≡ 24 → ⊥
  never-24 l e = go how e
    where
      go : {j : ℕ} → How C q t n x m f j → j ≡ 24 → ⊥
      go (record-did i a g w) h = never (ap passes h) (pair-no C w)
      go (debt-grew g w) h = omega arith
      go (stay-passed g w) h = omega arith
      go (gap-passed g w) h = omega arith
      go (limit-passed g w) h =
          too_far (latest (act_on w.bank) p) C.most
          (busy-unrefreshed C w.bank w.below p (apart-up-to (t - 1) q apart) tidy (t - 1) (up-to-edge (t - 1) q) w.passed.0) w.passed.1 l

  -- where the limit is nine of the intervals that the debt counts
  module _ (pos : 0 < C.trefi) (nine : C.nine ≡ 9 * C.trefi) where
    -- with no REF 25 passes one edge before 31
    unpaid : number (latest (is Ref) p) ≡ 0 → C.nine < since_ref p t → ⊥
    unfolding since_ref
    unpaid none far =
        let nines : 9 * C.trefi ≤ awake_at p (t - 1) = omega (arith, far, nine, awake-before p t (up-to-edge (t - 1) q)) in
        let more : 9 ≤ awake_at p (t - 1) / C.trefi = (le-div_iff_mul-le pos).1 nines in
        omega (arith, more, owed-none-at pos p (t - 1) none, small-owed-at C pos q apart (t - 1) fine)

    partner-31 : k ≡ 31 → 1 ≤ x
    partner-31 e = go how e
      where
        go : {j : ℕ} → How C q t n x m f j → j ≡ 31 → 1 ≤ x
        go (record-did i a g w) h = never (ap passes h) (pair-no C w)
        go (limit-passed g w) h = absurd (omega arith)
        go (debt-grew g w) h = absurd (omega arith)
        go (stay-passed g w) h = absurd (omega arith)
        go (gap-passed g w) h = elim (dec_lt 0 x) [
          | yes l ↦ l
          | no l ↦ absurd (unpaid (omega (arith, w.partner-is)) w.passed)
        ]

-- ── Of a header ─────────────────────────────────────────────────────────────────────────────

-- nine intervals of a hot part are not longer than its greatest t_ras, which is rounded down once
hot-limit : (h : Header) → 1 ≤ h.period.ps → h.hot ≡ true → (chip_of h).nine ≤ (chip_of h).most
unfolding chip_of
hot-limit h least y =
    let p = h.period.ps in
    let d = rounded 3900000 p in
    let whole = (down-greatest 3900000 p (omega arith)).not-longer in
    let nine : 9 * rounded 3900000 h.period.ps * h.period.ps ≡ 9 * (rounded 3900000 h.period.ps * h.period.ps) = mul_assoc 9 d p in
    rw y ((down-greatest 35100000 p (omega arith)).greatest (9 * d) (omega arith))

nine-intervals : (h : Header) → (chip_of h).nine ≡ 9 * (chip_of h).trefi
unfolding chip_of
nine-intervals h = refl

pub never-seen : (h : Header) → 1070 ≤ h.period.ps → h.period.ps ≤ 3300 → (q : Past) → Apart q → (end t n k x m f : ℕ)
    → verdict_to (chip_of h) q end ≡ stop t n (Broken k x m f) → Unseen h k x
never-seen h least most q apart end t n k x m f z = record {
  no-28 = never-28 (chip_of h) q apart end t n k x m f z;
  no-hot-24 = λ y. never-24 (chip_of h) q apart end t n k x m f z (hot-limit h (omega arith) y);
  partner-of-31 = partner-31 (chip_of h) q apart end t n k x m f z (sound h least most).refi-least (nine-intervals h);
}
