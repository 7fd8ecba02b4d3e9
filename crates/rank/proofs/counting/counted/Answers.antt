-- Each turn counts a record; a step of 0 gives the rank as it was.
-- Assumes nothing.
use native.Mathlib.Omega.{arith}
use Rattle.edges.specs.Step.{stopped_of}
use Rattle.edges.proofs.Counts.{counts_start, counts_end, counts-edge, counts-count, counts_zero, counts-next}
use Rattle.rank.proofs.counting.counted.Goals as goal

pub loop-at-init : goal.loop-at-init
loop-at-init c = counts_start _ _ _ c.requires

pub record_at-r-requires : goal.record_at-r-requires
record_at-r-requires c = omega (arith, c.loop-at.invariant.ready.sixes, c.loop-at-test.true)

pub returns-then-r-eq0 : goal.returns-then-r-eq0
returns-then-r-eq0 c = let l = c.loop-at in let q = c.loop-at-test.true in let a = c.record_at-r in λ C s. counts_zero _ _ _ _ _ l.invariant a.result a.ensures q s C c.if-r-eq0.true

pub overflow_add-m : goal.overflow_add-m
overflow_add-m c = let l = c.loop-at in let q = c.loop-at-test.true in let a = c.record_at-r in omega (arith, counts-edge _ _ _ _ _ l.invariant a.result a.ensures q)

pub overflow_add-m-in-loop-at : goal.overflow_add-m-in-loop-at
overflow_add-m-in-loop-at c = let l = c.loop-at in let q = c.loop-at-test.true in let a = c.record_at-r in omega (arith, counts-count _ _ _ _ _ l.invariant a.result a.ensures q)

pub overflow_add-at : goal.overflow_add-at
overflow_add-at c = let l = c.loop-at in omega (arith, l.invariant.ready.within, l.invariant.ready.sixes, c.loop-at-test.true, c.well_formed)

pub loop-at-smaller : goal.loop-at-smaller
loop-at-smaller c = omega (arith, c.loop-at-test.true)

pub loop-at-preserved : goal.loop-at-preserved
unfolding stopped_of
loop-at-preserved c = let l = c.loop-at in let q = c.loop-at-test.true in let a = c.record_at-r in counts-next _ _ _ _ _ l.invariant a.result a.ensures q c.if-r-eq0.false

pub returns : goal.returns
returns c = let l = c.loop-at in λ C s. counts_end _ _ _ _ _ l.invariant s C (omega (arith, c.loop-at-test.false))
