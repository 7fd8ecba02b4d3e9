-- The edge of the bank's ACT is near enough.
-- Assumes nothing.
use Prim.Native.Nat.{◌%◌}
use native.Mathlib.Omega.{arith}
use Rattle.rank.proofs.banks.start_of.Goals as goal

pub start_now-requires : goal.start_now-requires
start_now-requires c = record { small = c.requires.small; e_le_last_edge = c.requires.e_le_last_edge; a_le_last_edge = c.requires.by_index (c.args.r.bank % 8) (omega arith) }
