-- Too short; the header's refusal; else what is refused behind it.
-- Assumes nothing.
use Rattle.std.proofs.Common.{sym, ap, ◌∙◌}
use Rattle.refusals.specs.Refusals.{number_in}
use Rattle.refusals.proofs.Passed.{passed}
use Rattle.header.proofs.Answers.{number_is}
use Rattle.moves.specs.Check.{over_of}
use Rattle.moves.proofs.Going.{lent}
use Rattle.moves.proofs.Sections.{too_short, header-told, header-passes}
use Rattle.moves.proofs.checked.Goals as goal

pub returns-then-recording-lt6 : goal.returns-then-recording-lt6
returns-then-recording-lt6 c = too_short c.args.edition c.args.recording.now c.if-recording-lt6.true

pub returns-in_err-parse : goal.returns-in_err-parse
returns-in_err-parse c =
    ap number_in (passed c.from_residual.result _ c.from_residual.ensures.1)
    ∙ header-told c.args.edition _ _ _ (ap number_in (sym c.in_err-parse.was ∙ c.parse.ensures) ∙ number_is _ _)

pub returns : goal.returns
returns c =
    c.behind.ensures
    ∙ header-passes c.args.edition _ _ _ (ap number_in (sym c.in_ok-parse.was ∙ c.parse.ensures) ∙ number_is _ _)
    (c.over.ensures ∙ (λ i. over_of (c.start.ensures i) (lent c.args.recording.now i)))
