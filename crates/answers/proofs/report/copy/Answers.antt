-- The whole text is taken.
use mathlib.Core.Path.{refl}
use lib.Seq.{take-length}
use Rattle.answers.proofs.report.copy.Goals as goal

pub returns : goal.returns
returns c = rw (c.copy_from_slice.ensures.after, take-length) refl
