-- A rank's records: in two parts, and that a rank in range stays so.
-- Assumes nothing.
use Prim.Native.Nat.{ℕ, ◌+◌, ◌/◌, ◌≤◌}
use native.Mathlib.Omega.{arith}
use mathlib.Core.Bool.{Bool, true, false, cond, ◌||◌}
use mathlib.Core.List.{List, [], ◌∷◌, ◌++◌, map}
use mathlib.Core.Path.{◌≡◌, refl}
use lib.Dec.{eqb}
use lib.ListN.{length, length-map}
use Rattle.records.specs.declared.Record.{Record}
use Rattle.records.specs.Pieces.{pieces}
use Rattle.records.specs.Record.{record_at, records, has_zero, steps_of}
use Rattle.records.proofs.Records.{length-records, step-at}
use Rattle.wide.specs.declared.Wide.{Wide}
use Rattle.wide.specs.Wide.{rank_of}
use Rattle.wide.proofs.Wides.{rank-steps}
use Rattle.chip.specs.declared.Chip.{Chip}
use Rattle.running.specs.Ranges.{limit, Small}
use Rattle.running.specs.Said.{is_clean}
use Rattle.edges.specs.declared.Rank.{Rank}
use Rattle.edges.specs.Step.{moved_of, stopped_of, step_of, fold_of}
use Rattle.edges.specs.Says.{says_of}
use Rattle.edges.specs.Ranges.{rank_in_range, Ranged}
use Rattle.edges.proofs.Ranging as rank

pub fold-append : (C : Chip) (n : Rank) (rs ss : List Record) → fold_of C n (rs ++ ss) ≡ fold_of C (fold_of C n rs) ss
fold-append C n [] ss = refl
fold-append C n (r ∷ rs) ss = fold-append C (step_of C n r) rs ss

pub zero_of : (rs ss : List Record) → has_zero (rs ++ ss) ≡ has_zero rs || has_zero ss
zero_of [] ss = refl
zero_of (r ∷ rs) ss = go (eqb r.step 0) (zero_of rs ss)
  where
    go : (x : Bool) → has_zero (rs ++ ss) ≡ has_zero rs || has_zero ss → cond x true (has_zero (rs ++ ss)) ≡ cond x true (has_zero rs) || has_zero ss
    go true e = refl
    go false e = e

-- a step has 24 bits
abbrev pub Short : List Record → Type 0
Short [] = Unit {0}
Short (r ∷ rs) = (r.step ≤ 16777216) × Short rs

shorts : (ps : List (List ℕ)) → Short (map (λ xs. record_at xs 0) ps)
shorts [] = tt
shorts (p ∷ ps) = (omega (arith, step-at p 0), shorts ps)

pub short : (bs : List ℕ) → Short (records bs)
short bs = shorts (pieces 6 bs)

module _ (C : Chip) (small : Small C) where
  ranged-on :
      (rs : List Record) (n : Rank) → Ranged n → n.count + length rs ≤ limit → Short rs
      → Ranged (fold_of C n rs) × ((fold_of C n rs).count ≡ n.count + length rs)
  ranged-on [] n range room sh = (range, omega arith)
  ranged-on (r ∷ rs) n range room sh =
      let k = rank.step-goes C small n r range (omega arith) sh.0 in
      let w = ranged-on rs (step_of C n r) k.0 (omega (arith, k.1)) sh.1 in
      (w.0, omega (arith, k.1, w.1))

  pub fold-kept :
      (n : Rank) → rank_in_range n ≡ true → (bs : List ℕ) → n.count + length bs / 6 ≤ limit
      → (rank_in_range (fold_of C n (records bs)) ≡ true) × ((fold_of C n (records bs)).count ≡ n.count + length bs / 6)
  fold-kept n range bs room =
      let long = length-records bs in
      let w = ranged-on (records bs) n (rank.ranged n range) (omega arith) (short bs) in
      (rank.in-range (fold_of C n (records bs)) w.0, omega (arith, w.1))

-- ── Broken or not, a rank goes on by each record's step ─────────────────────────────────────

step-on : (C : Chip) (n : Rank) (r : Record) → ((step_of C n r).edge ≡ n.edge + r.step) × ((step_of C n r).count ≡ n.count + 1)
unfolding step_of moved_of stopped_of
step-on C n r = go (is_clean n.first) (is_clean (says_of C n r))
  where
    go : (x y : Bool)
        → ((cond x (cond y (moved_of C n r) (stopped_of n r (says_of C n r))) (stopped_of n r n.first)).edge ≡ n.edge + r.step)
        × ((cond x (cond y (moved_of C n r) (stopped_of n r (says_of C n r))) (stopped_of n r n.first)).count ≡ n.count + 1)
    go true true = (refl, refl)
    go true false = (refl, refl)
    go false y = (refl, refl)

pub fold_on : (C : Chip) (n : Rank) (rs : List Record) → ((fold_of C n rs).edge ≡ n.edge + steps_of rs) × ((fold_of C n rs).count ≡ n.count + length rs)
fold_on C n [] = (omega arith, omega arith)
fold_on C n (r ∷ rs) =
    let k = step-on C n r in
    let w = fold_on C (step_of C n r) rs in
    (omega (arith, k.0, w.0), omega (arith, k.1, w.1))

-- as the first and as the second rank see them
pub level-on :
    (C : Chip) (ws : List Wide) (n m : Rank) → n.count ≡ m.count → n.edge ≡ m.edge
    → ((fold_of C n (map (rank_of false) ws)).count ≡ (fold_of C m (map (rank_of true) ws)).count)
    × ((fold_of C n (map (rank_of false) ws)).edge ≡ (fold_of C m (map (rank_of true) ws)).edge)
level-on C ws n m c e =
    let a = fold_on C n (map (rank_of false) ws) in
    let b = fold_on C m (map (rank_of true) ws) in
    (omega (arith, a.1, b.1, length-map ws (rank_of false), length-map ws (rank_of true), c), omega (arith, a.0, b.0, rank-steps true ws, e))
