-- The line of a refusal: its word, its number and the end.
-- Assumes nothing.
use Rattle.lines.specs.Line.{refusal_line}
use Rattle.lines.proofs.Texts.{more, printed, counted}
use Rattle.lines.proofs.refusal_line.Goals as goal

pub returns : goal.returns
unfolding refusal_line
returns c =
    let p = printed (more (more c.put-word.ensures c.number-at.ensures.put) c.put.ensures) in
    (counted p, p)
