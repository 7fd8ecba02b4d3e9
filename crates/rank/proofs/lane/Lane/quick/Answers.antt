-- Each turn is a law of edges (proofs/Loop.antt).
-- Assumes nothing.
use native.Mathlib.Omega.{arith}
use Rattle.edges.proofs.Stands.{last-edge, one_more_lem}
use Rattle.edges.proofs.Loop.{goes}
use Rattle.rank.proofs.Lanes.{came-on}
use Rattle.rank.proofs.lane.Lane.quick.Goals as goal

pub overflow_add-e : goal.overflow_add-e
overflow_add-e c =
    let l = c.loop-at in let q = c.loop-at-test.true in let a = c.record_at-r in
    omega (arith, last-edge _ _ _ _ _ l.invariant.quickly.stands q a.result a.ensures)

pub frequent-requires-clause-near : goal.frequent-requires-clause-near
frequent-requires-clause-near c =
    let l = c.loop-at in let q = c.loop-at-test.true in let a = c.record_at-r in let st = l.invariant.quickly.stands in
    record { edge = last-edge _ _ _ _ _ st q a.result a.ensures; count = one_more_lem _ _ _ _ _ st q a.result a.ensures; turn = st.turn; ring = st.ring; acted = st.acted }

pub loop-at-preserved : goal.loop-at-preserved
loop-at-preserved c =
    let a = c.record_at-r in
    came-on c.loop-at.invariant c.loop-at-test.true a.result a.ensures (goes _ _ _ _ _ c.if-r-clear.false) (c.frequent.ensures.came c.if-not-frequent.false)
