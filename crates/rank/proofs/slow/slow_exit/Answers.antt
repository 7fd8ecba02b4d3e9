-- It is an exit.
-- Assumes nothing.
use Rattle.edges.specs.Next.{slow_now, none_open}
use Rattle.records.specs.declared.Command.TheVariants.{Pdx}
use Rattle.rank.proofs.Commands.{a-is}
use Rattle.rank.proofs.slow.slow_exit.Goals as goal

pub returns-in-Pdx : goal.returns-in-Pdx
unfolding slow_now none_open
returns-in-Pdx c = λ _. c.slow_now.ensures

pub returns-in_default : goal.returns-in_default
returns-in_default c = λ h. absurd (c.in_default.not-Pdx (a-is Pdx _ h))
