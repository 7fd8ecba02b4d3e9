-- The others leave it alone.
-- Assumes nothing.
use Rattle.records.specs.declared.Command.TheVariants.{Ref, Sre, Srx}
use Rattle.edges.specs.Next.{debt_next}
use Rattle.rank.proofs.Commands.{is-other}
use Rattle.rank.proofs.coming.owed.Goals as goal

pub returns-in_default : goal.returns-in_default
unfolding debt_next
returns-in_default c = let n = c.in_default in rw (is-other Ref _ n.not-Ref, is-other Sre _ n.not-Sre, is-other Srx _ n.not-Srx)
