-- By the bank's case.
-- Assumes nothing.
use mathlib.Core.Path.{sym, ap}
use Rattle.answers.specs.Answer.{shown_of}
use Rattle.answers.proofs.show.Goals as goal

pub returns-in-Idle : goal.returns-in-Idle
returns-in-Idle c = sym (ap shown_of c.in-Idle.is)

pub returns-in-Open : goal.returns-in-Open
returns-in-Open c = sym (ap shown_of c.in-Open.is)

pub returns-in-Closing : goal.returns-in-Closing
returns-in-Closing c = sym (ap shown_of c.in-Closing.is)
