-- The lowest rule first.
-- Assumes nothing.
use Rattle.edges.specs.Says.{broken_in}
use Rattle.rank.proofs.said.broken_in.Goals as goal

pub returns : goal.returns
unfolding broken_in
returns c =
    simp (
      c.joined.ensures,
      c.spaced_in-spacing.ensures,
      c.rule3-three.ensures,
      c.written_of.ensures,
      c.rule2_in-two.ensures,
      ← c.requires.c_value,
    )
