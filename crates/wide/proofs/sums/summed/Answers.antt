-- One turn: a record's step and bits.
-- Assumes nothing.
use Rattle.std.proofs.Common.{◌+◌, map, length, drop, ap, sym, ◌∙◌, arith, add-one, drop-cons, slice_index_or, []}
use Rattle.records.proofs.Pieces.{length-pieces}
use Rattle.wide.specs.Wide.{wide_at}
use Rattle.wide.proofs.Stepping.{steps-one}
use Rattle.wide.proofs.sums.summed.Goals as goal

pub overflow_add-sum : goal.overflow_add-sum
overflow_add-sum c =
    let l = c.loop-eight in
    omega (arith, l.invariant.0, c.word-w.type_inv, c.loop-eight-test.true, ap length c.eights-eight-items.ensures, length-pieces 8 c.args.bytes.now, c.requires)

pub loop-eight-preserved : goal.loop-eight-preserved
loop-eight-preserved c =
    let l = c.loop-eight in
    let ps = c.eights-eight-items.result.now in
    let w = c.word-w in
    let rest = map (λ p. wide_at p 0) (drop (l.eight-index + 1) ps) in (
      omega (arith, l.invariant.0, w.type_inv),
      sym (steps-one l.sum l.zero l.spare (slice_index_or ps l.eight-index []) rest w.result w.ensures (omega (arith, w.type_inv)))
          ∙ rw (add-one l.eight-index) (rw (drop-cons ps l.eight-index [] c.loop-eight-test.true) at l.invariant.1),
    )
