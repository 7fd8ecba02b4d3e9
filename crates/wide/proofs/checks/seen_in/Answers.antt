-- One turn: a record is seen.
-- Assumes nothing.
use Rattle.std.proofs.Common.{◌+◌, map, drop, ap, sym, ◌∙◌}
use Rattle.records.proofs.Turns.{go-more}
use Rattle.wide.specs.declared.Seen.{Seen}
use Rattle.wide.specs.Wide.{fields_of, wide_at}
use Rattle.wide.specs.Seen.{seen_more, seen_of}
use Rattle.wide.proofs.Seeing.{one_more_lem}
use Rattle.wide.proofs.checks.seen_in.Goals as goal

pub loop-eight-preserved : goal.loop-eight-preserved
loop-eight-preserved c =
    let l = c.loop-eight in
    let ps = c.eights-eight-items.result.now in
    let rest = map (λ p. wide_at p 0) (drop (l.eight-index + 1) ps) in
    go-more (λ (s : Seen) ps. seen_of s (map (λ p. wide_at p 0) ps)) _ ps l.s l.eight-index l.invariant c.loop-eight-test.true _
    (one_more_lem l.s _ rest ∙ ap (λ (s : Seen). seen_of s rest) (sym (c.more-s.ensures ∙ ap (seen_more l.s) (c.fields.ensures ∙ ap fields_of c.word.ensures))))
