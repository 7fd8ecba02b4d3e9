-- By the edition.
-- Assumes nothing.
use mathlib.Core.Path.{ap, ◌∙◌}
use borrow.Author.Tests.{eq-eqb, ne_eqb}
use Rattle.chip.specs.declared.Chip.{Chip}
use Rattle.edges.specs.Ends.{ended_of}
use Rattle.judge.proofs.calls.second_end.Goals as goal

pub returns-then-s-eq2 : goal.returns-then-s-eq2
returns-then-s-eq2 c =
    rw (eq-eqb _ _ c.if-s-eq2.true)
    (c.end.ensures ∙ ap (λ (C : Chip). ended_of C c.args.s.two c.args.end) c.chip_of.ensures)

pub returns : goal.returns
returns c = rw (ne_eqb _ _ c.if-s-eq2.false) c.no_end.ensures
