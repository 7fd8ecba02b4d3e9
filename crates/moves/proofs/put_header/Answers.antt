-- The six bytes in front.
-- Assumes nothing.
use Rattle.std.proofs.Common.{refl}
use Rattle.moves.specs.Moves.{headed}
use Rattle.moves.proofs.put_header.Goals as goal

pub returns : goal.returns
unfolding headed
returns c = rw (c.copy_from_slice.ensures.after) refl
