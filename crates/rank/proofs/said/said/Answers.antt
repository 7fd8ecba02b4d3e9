-- The deadlines, and what the record breaks.
-- Assumes nothing.
use native.Mathlib.Omega.{arith}
use Rattle.edges.specs.Says.{says_of}
use Rattle.rank.proofs.said.said.Goals as goal

pub overflow_add-e-5 : goal.overflow_add-e-5
overflow_add-e-5 c = omega (arith, c.requires.ranged.edge, c.requires.ranged.count, c.requires.step_bound)

pub broken_in-rules-requires : goal.broken_in-rules-requires
broken_in-rules-requires c = record { turn_bound = c.requires.ranged.turn; c_value = c.command_of-c.ensures }

pub changed_in-changed-requires : goal.changed_in-changed-requires
changed_in-changed-requires c = record { turn_bound = c.requires.ranged.turn; c_value = c.command_of-c.ensures }

pub left_in-left-requires : goal.left_in-left-requires
left_in-left-requires c = record { turn_bound = c.requires.ranged.turn; c_value = c.command_of-c.ensures }

pub overflow_add-s : goal.overflow_add-s
overflow_add-s c = omega (arith, c.requires.count_bound)

pub returns : goal.returns
unfolding says_of
returns c =
    simp (
      c.says_by.ensures,
      c.left_in-left.ensures,
      c.changed_in-changed.ensures,
      c.owing-owes.ensures,
      c.broken_in-rules.ensures,
      c.next31-x31.ensures,
      c.next28-x28.ensures,
      c.next25-x25.ensures,
      c.next24-x24.ensures,
      c.command_of-c.ensures,
    )
