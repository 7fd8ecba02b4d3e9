-- The line of a verdict: its words and the end.
-- Assumes nothing.
use Rattle.lines.proofs.Texts.{more, printed, at-start, counted}
use Rattle.lines.proofs.verdict_line.Goals as goal

pub returns : goal.returns
returns c =
    let p = printed (more (at-start c.verdict_words-at.ensures.1.1) c.put.ensures) in
    (counted p, p)
