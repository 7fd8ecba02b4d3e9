-- The eight bytes in their place.
-- Assumes nothing.
use Rattle.std.proofs.Common.{◌∙◌, ◌++◌, take, drop, ap, ◌+◌, ◌≡◌}
use Rattle.wide.specs.Moved.{bytes8}
use Rattle.wide.proofs.Placing.{placed}
use Rattle.wide.proofs.moved.put8.Goals as goal

pub returns : goal.returns
unfolding bytes8
returns c =
    let out = c.args.out.now in
    let is : c.copy_from_slice.new.self ≡ bytes8 c.args.n = c.copy_from_slice.ensures.after ∙ c.to_be_bytes.ensures in
    placed c.args.at 8 out c.copy_from_slice.new.self ∙ ap (λ ys. take c.args.at out ++ ys ++ drop (c.args.at + 8) out) is
