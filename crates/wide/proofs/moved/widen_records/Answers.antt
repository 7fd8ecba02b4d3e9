-- A record a turn.
-- Assumes nothing.
use native.Mathlib.Omega.{arith}
use Rattle.wide.proofs.Loops.{widen-start, widen-turn, widen-length, widen-end}
use Rattle.wide.proofs.moved.widen_records.Goals as goal

pub loop-i-init : goal.loop-i-init
loop-i-init c = widen-start _ _

pub overflow_mul-i : goal.overflow_mul-i
overflow_mul-i c = omega (arith, c.min-count.ensures)

pub narrow_word-w-requires : goal.narrow_word-w-requires
narrow_word-w-requires c = omega (arith, c.min-count.ensures, c.loop-i.auto.i-end, c.loop-i-test.true)

pub overflow_mul-i-in-loop-i : goal.overflow_mul-i-in-loop-i
overflow_mul-i-in-loop-i c = omega (arith, c.loop-i.auto.i-end, c.min-count.ensures)

pub put8-requires : goal.put8-requires
put8-requires c =
    let l = c.loop-i in
    let few = c.min-count.ensures in
    omega (arith, few, c.loop-i-test.true, widen-length _ _ l.out l.i l.invariant (omega (arith, few, l.auto.i-end)) (omega (arith, few, l.auto.i-end)))

pub loop-i-preserved : goal.loop-i-preserved
loop-i-preserved c =
    let l = c.loop-i in
    let few = c.min-count.ensures in
    widen-turn _ _ l.out l.i l.invariant (omega (arith, few, c.loop-i-test.true)) c.narrow_word-w.result c.widened.result c.narrow_word-w.ensures c.widened.ensures _ c.put8.ensures

pub overflow_mul-result : goal.overflow_mul-result
overflow_mul-result c = omega (arith, c.min-count.ensures)

pub shape_of-out : goal.shape_of-out
shape_of-out c =
    let l = c.loop-i in
    let few = c.min-count.ensures in
    widen-length _ _ l.out l.i l.invariant (omega (arith, few, l.auto.i-end)) (omega (arith, few, l.auto.i-end))

pub returns : goal.returns
returns c =
    let l = c.loop-i in
    let few = c.min-count.ensures in
    widen-end _ _ l.out l.i l.invariant (omega (arith, few, l.auto.i-end, c.loop-i-test.false)) _ (omega (arith, l.auto.i-end, c.loop-i-test.false))
