-- Counted where both are broken, beside the other where one is, else in parts.
-- Assumes nothing.
use Rattle.judge.proofs.Counted.{both-broken, counts-took}
use Rattle.judge.proofs.ranks.both.Goals as goal

pub returns-then-one-two : goal.returns-then-one-two
returns-then-one-two c = let broken = both-broken _ _ c.if-one-two.true in counts-took _ _ _ broken.0 broken.1 _ c.counted.ensures
