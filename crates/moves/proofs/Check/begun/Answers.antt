-- The header, and no section yet.
-- Assumes nothing.
use Rattle.std.proofs.Common.{sym, ap, ◌∙◌}
use Rattle.refusals.specs.Refusals.{number_in}
use Rattle.header.proofs.Answers.{number_is}
use Rattle.moves.specs.Check.{start_of, begun_of}
use Rattle.moves.proofs.Check.begun.Goals as goal

pub returns-in-Ok : goal.returns-in-Ok
unfolding begun_of
returns-in-Ok c = c.start.ensures ∙ ap (start_of c.args.edition) (ap number_in (sym c.in-Ok.is ∙ c.parse.ensures) ∙ number_is _ _)

pub returns-in-Err : goal.returns-in-Err
unfolding begun_of
returns-in-Err c =
    c.start-in-Err.ensures ∙ ap (start_of c.args.edition) (c.number.ensures ∙ ap number_in (sym c.in-Err.is ∙ c.parse.ensures) ∙ number_is _ _)
