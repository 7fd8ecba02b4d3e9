-- Where CKE changes.
-- Assumes nothing.
use Rattle.kept.proofs.down.rule27.Goals as goal

pub returns-then-changes : goal.returns-then-changes
returns-then-changes c = rw c.if-changes.true c.spaced.ensures

pub returns : goal.returns
returns c = rw c.if-changes.false
