-- The six bytes in their place.
-- Assumes nothing.
use Rattle.std.proofs.Common.{◌≡◌, ◌∙◌, ◌++◌, ◌+◌, take, drop, refl, ap}
use Rattle.wide.specs.Low.{low6}
use Rattle.wide.proofs.Placing.{placed}
use Rattle.wide.proofs.low.put.Goals as goal

pub returns : goal.returns
unfolding low6
returns c =
    let out = c.args.out.now in
    let is : c.copy_from_slice.new.self ≡ low6 c.args.n = rw (c.copy_from_slice.ensures.after, c.to_le_bytes.ensures) refl in
    placed c.args.at 6 out c.copy_from_slice.new.self ∙ ap (λ ys. take c.args.at out ++ ys ++ drop (c.args.at + 6) out) is
