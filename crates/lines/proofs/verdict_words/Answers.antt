-- The words, by the outcome.
-- Assumes nothing.
use borrow.Author.Tests.{eq-eqb, ne_eqb}
use Rattle.lines.specs.Line.{verdict_words}
use Rattle.lines.proofs.Texts.{printed, counted}
use Rattle.lines.proofs.verdict_words.Goals as goal

pub returns-then-outcome-eq0 : goal.returns-then-outcome-eq0
unfolding verdict_words
returns-then-outcome-eq0 c =
    let p = printed c.clean.ensures.put in
    (counted p, (c.clean.ensures.upper_bound, rw (eq-eqb _ 0 c.if-outcome-eq0.true) p))

pub returns : goal.returns
unfolding verdict_words
returns c =
    let p = printed c.broken.ensures.put in
    (counted p, (c.broken.ensures.upper_bound, rw (ne_eqb _ 0 c.if-outcome-eq0.false) p))
