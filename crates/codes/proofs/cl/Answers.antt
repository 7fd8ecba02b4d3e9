-- CL is read from its place in the table.
-- Assumes nothing.
use Rattle.codes.proofs.Tables.{cls, cl-is}
use native.Mathlib.Omega.{arith}
use Rattle.codes.proofs.cl.Goals as goal

pub returns : goal.returns
unfolding cls
returns c = cl-is _ (omega arith)
