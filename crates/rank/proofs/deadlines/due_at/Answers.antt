-- The edge of the bank's ACT is within the ranges.
-- Assumes nothing.
use native.Mathlib.Omega.{arith}
use mathlib.Core.Path.{ap, ◌∙◌}
use Rattle.running.specs.Next.{due}
use Rattle.edges.specs.Views.{kept_of}
use Rattle.rank.proofs.deadlines.due_at.Goals as goal

pub due-requires : goal.due-requires
unfolding kept_of
due-requires c =
    let p = c.requires in record { small = p.small; at_le_far_edge = rw c.kept_of.ensures (omega (arith, p.by_index c.args.b p.place)) }

pub returns : goal.returns
returns c = c.due.ensures ∙ ap (due _) c.kept_of.ensures
