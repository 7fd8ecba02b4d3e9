-- By the two cases: an allowed code, or the bit that is refused.
-- Assumes nothing.
use Rattle.registers.proofs.Facts.{as-allowed, as-bit}
use Rattle.kept.proofs.breaks.mrs_allowed.Goals as goal

pub returns-in-Ok : goal.returns-in-Ok
returns-in-Ok c = simp (as-allowed _ _ _ _ c.decode.ensures _ c.in-Ok.is)

pub returns-in-Err : goal.returns-in-Err
returns-in-Err c =
    let w = as-bit _ _ _ _ c.decode.ensures _ c.in-Err.is in
    simp (w.0, w.1)
