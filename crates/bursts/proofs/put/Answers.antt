-- `bursts::put` meets its contract, by what `bytes::copy` ensures.
-- Assumes nothing.
use Rattle.bursts.proofs.Answers.{too_short, copied}
use native.Mathlib.Omega.{arith}
use mathlib.Core.Path.{refl}
use lib.Seq.{take-length}
use Rattle.bursts.proofs.put.Goals as goal

pub returns-then-out-words : goal.returns-then-out-words
returns-then-out-words c = too_short (omega arith)

pub returns : goal.returns
returns c = copied (omega arith) (rw (c.copy_from_slice.ensures.after, take-length) refl)
