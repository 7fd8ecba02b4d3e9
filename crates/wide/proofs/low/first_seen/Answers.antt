-- What both see, and CKE with the rank's own CS.
-- Assumes nothing.
use Rattle.wide.specs.Low.{seen_low}
use Rattle.wide.proofs.low.first_seen.Goals as goal

pub returns : goal.returns
unfolding seen_low
returns c = rw c.shared.ensures.value
