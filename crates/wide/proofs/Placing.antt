-- Bytes that were put at a place: what stands before them and behind them is as it was.
-- Assumes nothing.
use Rattle.std.proofs.Common.{◌≡◌, ℕ, ◌+◌, ◌-◌, List, ◌++◌, take, drop, sym, ap, ◌∙◌, append_assoc, arith}
use borrow.Rule.Slice.PartMut.{put_mid, Post-is}

pub placed : (at k : ℕ) (xs ys : List ℕ) → put_mid at (at + k - at) xs ys ≡ take at xs ++ ys ++ drop (at + k) xs
placed at k xs ys =
    ap (λ (zs : List ℕ). take at xs ++ (ys ++ zs)) (Post-is at (at + k) xs (omega arith)) ∙ sym (append_assoc (take at xs) ys (drop (at + k) xs))
