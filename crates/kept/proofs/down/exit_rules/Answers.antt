-- By the command.
-- Assumes nothing.
use native.Mathlib.Omega.{arith}
use mathlib.Core.Path.{ap, ◌∙◌}
use Rattle.running.specs.Marks.{spaced}
use Rattle.running.specs.Down.{exit_rules}
use Rattle.kept.proofs.down.exit_rules.Goals as goal

pub returns-in-Mrs : goal.returns-in-Mrs
unfolding exit_rules
returns-in-Mrs c = grind (arith, c.in-Mrs.is, c.of_left.ensures)

pub returns-in-Rd : goal.returns-in-Rd
unfolding exit_rules
returns-in-Rd c = rw c.in-Rd.is (c.spaced.ensures ∙ ap (spaced 29 _ _) c.of_slow.ensures)

pub returns-in-Nop : goal.returns-in-Nop
unfolding exit_rules
returns-in-Nop c = grind (arith, c.in-Nop.is)
