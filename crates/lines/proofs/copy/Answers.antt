-- The whole text is taken.
use mathlib.Core.Path.{refl}
use lib.Seq.{take-length}
use Rattle.lines.proofs.copy.Goals as goal

pub returns-clause-put : goal.returns-clause-put
returns-clause-put c = rw (c.copy_from_slice.ensures.after, take-length) refl
