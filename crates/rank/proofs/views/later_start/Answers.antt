-- By the test.
-- Assumes nothing.
use Rattle.rank.proofs.views.later_start.Goals as goal

pub returns-then-was-is : goal.returns-then-was-is
returns-then-was-is c = record { value = simp c.if-was-is.true; upper_bound = c.requires.b_bound }

pub returns : goal.returns
returns c = record { value = simp c.if-was-is.false; upper_bound = c.requires.x_bound }
