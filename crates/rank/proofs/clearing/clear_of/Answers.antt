-- The sooner of the banks' deadlines, one after the other, of the debt's and of the stay's.
-- Assumes nothing.
use Prim.Native.Nat.{ℕ, ◌≤◌}
use native.Mathlib.Omega.{arith}
use mathlib.Core.Bool.{Bool}
use mathlib.Core.Logic.{inl, inr}
use Rattle.edges.specs.Clearing.{Staying}
use Rattle.edges.proofs.Clearing.{clear-start, clear_next_lem, clear-end, owing-by, owing-below}
use Rattle.rank.proofs.clearing.clear_of.Goals as goal

sooner-too : (l z : Bool) (at stay x y : ℕ) → Staying l z at stay x → y ≤ x → Staying l z at stay y
sooner-too l z at stay x y (inl p) h = inl p
sooner-too l z at stay x y (inr (inl p)) h = inr (inl p)
sooner-too l z at stay x y (inr (inr p)) h = inr (inr (omega arith))

pub loop-b-init : goal.loop-b-init
loop-b-init c = clear-start _ _ _

pub next_due-x-requires : goal.next_due-x-requires
next_due-x-requires c = record { b_bound = c.loop-b-test.true; acted = c.requires.by_index _ c.loop-b-test.true }

pub loop-b-preserved : goal.loop-b-preserved
loop-b-preserved c = let r = c.next_due-x.ensures in clear_next_lem _ _ _ _ _ c.loop-b.invariant c.next_due-x.result r.off r.upper_bound

pub returns : goal.returns
returns c =
    let h = c.loop-b.invariant in
    let s = c.stay_of.ensures in
    let below = owing-below c.args.s.now.debt c.stay_of.result in
    rw c.owing_of.ensures (record {
      clears = clear-end _ _ _ _ _ h _ (omega (arith, c.loop-b-test.false)) (omega (arith, below, s.upper_bound));
      upper_bound = omega (arith, h.near, below, s.upper_bound);
      owing = owing-by _ _;
      staying = sooner-too _ _ _ _ _ _ s.staying below;
    })
