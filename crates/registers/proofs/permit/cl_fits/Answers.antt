-- By its span.
-- Assumes nothing.
use Rattle.std.proofs.Common.{refl}
use Rattle.registers.specs.Allowed.{cl_fits}
use Rattle.registers.proofs.permit.cl_fits.Goals as goal

pub returns : goal.returns
unfolding cl_fits
returns c = rw (c.spanned-s.ensures, c.wide-b.ensures) refl
