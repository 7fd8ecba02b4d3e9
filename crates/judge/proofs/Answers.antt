-- One answer for each public contract: opening, a section, closing.
-- Assumes nothing.
use Prim.Native.Nat.{ℕ}
use mathlib.Core.List.{List}
use Rattle.laws.proofs.Unique.{Unique, one_answer}
use Rattle.judge.specs.declared.State.{State}
use Rattle.judge.specs.Calls.{zeros, open_of, section_of, close_of}
use Rattle.judge.specs.Promises.{Open, Unopened, Section, Close}

pub open-unique : (header : List ℕ) → Unique (Open header)
open-unique header = one_answer (open_of header)

pub unopened-unique : Unique Unopened
unopened-unique = one_answer zeros

pub section-unique : (s : State) (bytes : List ℕ) → Unique (Section s bytes)
section-unique s bytes = one_answer (section_of s bytes)

pub close-unique : (s : State) (end : ℕ) → Unique (Close s end)
close-unique s end = one_answer (close_of s end)
