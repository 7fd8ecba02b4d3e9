-- WR is read from its place in the table.
-- Assumes nothing.
use Rattle.codes.proofs.Tables.{wrs, wr-is}
use native.Mathlib.Omega.{arith}
use Rattle.codes.proofs.wr.Goals as goal

pub returns : goal.returns
unfolding wrs
returns c = wr-is _ (omega arith)
