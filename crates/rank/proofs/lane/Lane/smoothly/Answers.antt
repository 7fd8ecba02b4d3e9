-- The lane's turns are laws of edges (proofs/Lane.antt).
-- Assumes nothing.
use native.Mathlib.Omega.{arith}
use mathlib.Core.Bool.{◌&&◌, not}
use lib.Dec.{eqb, ltb}
use Rattle.edges.proofs.Lane.{by-the-codes, lane-start, lane-ahead, lane-seldom, lane-out}
use Rattle.rank.proofs.Lanes.{quick-on}
use Rattle.rank.proofs.lane.Lane.smoothly.Goals as goal

pub loop-at-init : goal.loop-at-init
loop-at-init c =
    let clear = c.clear_of-clear.ensures in
    lane-start _ _ _ _ _ _ _ _ c.requires clear.clears clear.upper_bound clear.owing clear.staying c.numbered-real.ensures (by-the-codes c.asks_of-w.ensures c.regs_of.ensures)

pub returns-then-bytes-at : goal.returns-then-bytes-at
returns-then-bytes-at c =
    let peek = c.record_at-peek.result in
    let asks = c.asks_anew-w.ensures in
    let lane = quick-on c.loop-at.invariant (peek.cke && (ltb 1 peek.pins && not (eqb peek.pins 6))) _ asks.asked asks.value _ c.if_so-bound.ensures.value c.quick-at.ensures in
    lane-out _ _ lane

pub pass_next-requires : goal.pass_next-requires
pass_next-requires c =
    let peek = c.record_at-peek.result in
    let asks = c.asks_anew-w.ensures in
    let lane = quick-on c.loop-at.invariant (peek.cke && (ltb 1 peek.pins && not (eqb peek.pins 6))) _ asks.asked asks.value _ c.if_so-bound.ensures.value c.quick-at.ensures in
    lane-ahead lane (omega (arith, c.if-bytes-at.false)) _ c.record_at-r.ensures

pub returns-in-None : goal.returns-in-None
returns-in-None c =
    let peek = c.record_at-peek.result in
    let asks = c.asks_anew-w.ensures in
    let lane = quick-on c.loop-at.invariant (peek.cke && (ltb 1 peek.pins && not (eqb peek.pins 6))) _ asks.asked asks.value _ c.if_so-bound.ensures.value c.quick-at.ensures in
    rw c.in-None.ensures (lane-out _ _ lane)

pub loop-at-preserved : goal.loop-at-preserved
loop-at-preserved c =
    let peek = c.record_at-peek.result in
    let asks = c.asks_anew-w.ensures in
    let lane = quick-on c.loop-at.invariant (peek.cke && (ltb 1 peek.pins && not (eqb peek.pins 6))) _ asks.asked asks.value _ c.if_so-bound.ensures.value c.quick-at.ensures in
    lane-seldom lane (omega (arith, c.if-bytes-at.false)) _ c.record_at-r.ensures c.in-Some.ensures
