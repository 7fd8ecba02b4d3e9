-- Rule 26, else 27.
-- Assumes nothing.
use Rattle.edges.specs.Says.{changed_in}
use Rattle.rank.proofs.said.changed_in.Goals as goal

pub returns : goal.returns
unfolding changed_in
returns c =
    simp (
      c.or_else.ensures,
      c.entered.ensures,
      c.rule27-held.ensures,
      c.turns.ensures,
      c.shared_of-shared.ensures,
      ← c.requires.c_value,
    )
