-- With what it asks of an entry.
-- Assumes nothing.
use Rattle.kept.proofs.down.entry_write.Goals as goal

pub returns : goal.returns
returns c = simp c.write_need.ensures
