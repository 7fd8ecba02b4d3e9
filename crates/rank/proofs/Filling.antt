-- Eight of a kind, as a closure makes them and as the definitions have them.
-- Assumes nothing.
use Rattle.std.proofs.Common.{◌≡◌, ℕ, map, refl}
use Rattle.std.specs.List.{range_with_len}
use Rattle.laws.specs.Eight.{table}

pub eights : {A : Type 0} (f : ℕ → A) → map f (range_with_len 0 8) ≡ table f
unfolding table
eights f = refl
