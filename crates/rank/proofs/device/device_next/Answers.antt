-- An MRS, by its own function.
-- Assumes nothing.
use Rattle.rank.proofs.device.device_next.Goals as goal

pub returns-in-Mrs : goal.returns-in-Mrs
returns-in-Mrs c = rw c.in-Mrs.is (c.moded.ensures _ _)
