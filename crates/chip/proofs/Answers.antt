-- One answer for each public contract.
-- Assumes nothing.
use Prim.Native.Nat.{ℕ}
use Rattle.laws.proofs.Unique.{Unique, one_answer}
use Rattle.header.specs.declared.Header.{Header}
use Rattle.chip.specs.declared.Regs.{Regs}
use Rattle.chip.specs.Chip.{chip_of}
use Rattle.chip.specs.Latencies.{b_of}
use Rattle.chip.specs.Promises.{ChipOf, InForce, BOf}

pub chip-unique : (h : Header) → Unique (ChipOf h)
chip-unique h = one_answer (chip_of h)

-- of al_of, clOf, cwl_of, wr_of and h_of
pub in-force-unique : (number : Regs → ℕ) (g : Regs) → Unique (InForce number g)
in-force-unique number g x y p q = one_answer (number g) x y p.0 q.0

pub b-unique : (g : Regs) (a : ℕ) → Unique (BOf g a)
b-unique g a x y p q = one_answer (b_of g a) x y p.0 q.0
