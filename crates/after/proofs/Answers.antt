-- One answer for each public contract: of the clocks needed.
-- Assumes nothing.
use Prim.Native.Nat.{ℕ, ◌+◌, ◌-◌, max}
use Rattle.laws.proofs.Unique.{Unique, one_answer}
use Rattle.chip.specs.declared.Regs.{Regs}
use Rattle.chip.specs.Latencies.{al_of, cl_of, cwl_of, b_of}
use Rattle.after.specs.Promises.{Need4, Need13, Need19}

pub need4-unique : (trcd al : ℕ) → Unique (Need4 trcd al)
need4-unique trcd al = one_answer (max (trcd - al) 1)

pub need13-unique : (g : Regs) (a : ℕ) → Unique (Need13 g a)
need13-unique g a = one_answer (cl_of g + 2 + b_of g a - cwl_of g)

pub need19-unique : (g : Regs) (a : ℕ) → Unique (Need19 g a)
need19-unique g a = one_answer (al_of g + cl_of g + b_of g a)
