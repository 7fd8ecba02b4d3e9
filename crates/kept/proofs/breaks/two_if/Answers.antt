-- Rule 2, where it is broken.
-- Assumes nothing.
use Rattle.kept.proofs.breaks.two_if.Goals as goal

pub returns-then-broken : goal.returns-then-broken
returns-then-broken c = simp c.if-broken.true

pub returns : goal.returns
returns c = simp c.if-broken.false
