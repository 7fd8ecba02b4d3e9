-- One turn: a record is counted.
-- Assumes nothing.
use Rattle.std.proofs.Common.{◌+◌, map, drop, ap, sym, ◌∙◌, arith}
use Rattle.records.specs.Record.{record_at}
use Rattle.tally.specs.declared.Tally.{Tally}
use Rattle.tally.specs.Tally.{largest, step_of, fold_of}
use Rattle.records.proofs.Turns.{go-more}
use Rattle.tally.proofs.Folds.{counted, grown}
use Rattle.tally.proofs.fold.Goals as goal

pub loop-six-preserved : goal.loop-six-preserved
loop-six-preserved c =
    let l = c.loop-six in
    let ps = c.sixes-six-items.result.now in
    let r = c.decode-r in
    let k = c.kind_at-k in
    let z = c.sleeps_after in (
      go-more (λ (t : Tally) ps. fold_of t (map (λ p. record_at p 0) ps)) _ ps l.n l.six-index l.invariant.0 c.loop-six-test.true _
          (ap (λ r. fold_of (step_of l.n r) (map (λ p. record_at p 0) (drop (l.six-index + 1) ps))) (sym r.ensures)
          ∙ ap (λ t. fold_of t (map (λ p. record_at p 0) (drop (l.six-index + 1) ps))) (counted l.n r.result k.result z.result k.ensures.0 z.ensures)),
      λ j. omega (arith, grown l.n.counts (largest + l.six-index) k.result l.invariant.1 j),
    )
