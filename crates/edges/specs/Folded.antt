-- What a section's records come to: the rank after them, and whether a step in it was 0; then it is as it was.
-- Assumes nothing.
use Rattle.std.specs.Prelude.{Bool, true, false, Option, None, Some}
use Rattle.edges.specs.declared.Rank.{Rank}

pub record Folded : Type 0 where
  pub zero : Bool
  pub rank : Rank

-- of a rank s, by what is handed back: none where a step was 0
abbrev pub folded_as : Rank → Option Rank → Folded
folded_as s None = record { zero = true; rank = s }
folded_as s (Some n) = record { zero = false; rank = n }
