-- One answer for each public contract.
-- Assumes nothing.
use Prim.Native.Nat.{ℕ}
use mathlib.Core.Bool.{Bool}
use Rattle.laws.proofs.Unique.{Unique, one_answer}
use Rattle.chip.specs.declared.Chip.{Chip}
use Rattle.chip.specs.declared.Regs.{Regs}
use Rattle.running.specs.declared.Written.{Written}
use Rattle.running.specs.Ranges.{is_small}
use Rattle.running.specs.Ends.{no_end, registers_of}
use Rattle.edges.specs.declared.Rank.{Rank}
use Rattle.edges.specs.Ranges.{rank_in_range}
use Rattle.edges.specs.Step.{so_far}
use Rattle.edges.specs.Ends.{fresh_rank}
use Rattle.still.specs.Promises.{Fresh, InRange, IsSmall, NoEnd, RegistersOf, SoFar}

pub fresh-unique : (level : Bool) (due gap : ℕ) → Unique (Fresh level due gap)
fresh-unique level due gap = one_answer (fresh_rank level due gap)

pub in-range-unique : (n : Rank) → Unique (InRange n)
in-range-unique n = one_answer (rank_in_range n)

pub so-far-unique : (n : Rank) → Unique (SoFar n)
so-far-unique n = one_answer (so_far n)

pub no-end-unique : Unique NoEnd
no-end-unique = one_answer no_end

pub is-small-unique : (C : Chip) → Unique (IsSmall C)
is-small-unique C = one_answer (is_small C)

pub registers-unique : (g : Regs) (w : Written) → Unique (RegistersOf g w)
registers-unique g w = one_answer (registers_of g w)
