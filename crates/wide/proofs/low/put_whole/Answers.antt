-- The six bytes, and two more.
-- Assumes nothing.
use Rattle.std.proofs.Common.{◌≡◌, ◌∙◌, ◌++◌, ◌+◌, ◌/◌, ◌%◌, ◌∷◌, [], take, drop, ap}
use Rattle.wide.specs.Low.{low6}
use Rattle.wide.proofs.Placing.{placed}
use Rattle.wide.proofs.Laying.{whole-front, whole-behind, whole_long}
use Rattle.wide.proofs.low.put_whole.Goals as goal

pub returns : goal.returns
unfolding low6
returns c =
    let out = c.args.out.now in
    let n = c.args.n in
    let is : c.copy_from_slice.new.self ≡ low6 n ++ n / 281474976710656 % 256 ∷ n / 72057594037927936 % 256 ∷ [] =
    c.copy_from_slice.ensures.after ∙ c.to_le_bytes.ensures in
    let put = placed c.args.at 8 out c.copy_from_slice.new.self ∙ ap (λ ys. take c.args.at out ++ ys ++ drop (c.args.at + 8) out) is in
    record { out_after = whole-front _ _ _ _ _ _ c.requires put; out_unchanged = whole-behind _ _ _ _ _ _ c.requires put; out_len_unchanged = whole_long _ _ _ _ _ _ c.requires put }
