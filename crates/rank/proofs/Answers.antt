-- One answer for each public contract: a section's records, and a rank's end.
-- Assumes nothing.
use Prim.Native.Nat.{ℕ}
use mathlib.Core.Bool.{true≢false}
use mathlib.Core.List.{List}
use mathlib.Core.Path.{◌≡◌, refl, sym, ap}
use Rattle.std.specs.Prelude.{Option, Some, None}
use Rattle.laws.proofs.Unique.{Unique, one_answer}
use Rattle.chip.specs.declared.Chip.{Chip}
use Rattle.edges.specs.declared.Rank.{Rank}
use Rattle.edges.specs.Folded.{Folded, folded_as}
use Rattle.edges.specs.Ends.{taken_of, ended_of}
use Rattle.rank.specs.Promises.{Take, Ended}

pub take-unique : (C : Chip) (n : Rank) (bytes : List ℕ) → Unique (Take C n bytes)
take-unique C n bytes = one_answer (taken_of C n bytes)

-- what is handed back is told by it
pub folded-told : (s : Rank) (a b : Option Rank) → folded_as s a ≡ folded_as s b → a ≡ b
folded-told s None None e = refl
folded-told s None (Some n) e = absurd (true≢false (ap (λ (x : Folded). x.zero) e))
folded-told s (Some n) None e = absurd (true≢false (sym (ap (λ (x : Folded). x.zero) e)))
folded-told s (Some m) (Some n) e = λ i. Some ((e i).rank)

pub take-one : (C : Chip) (n : Rank) (bytes : List ℕ) → Unique (λ (r : Option Rank). Take C n bytes (folded_as n r))
take-one C n bytes a b p q = folded-told n a b (take-unique C n bytes _ _ p q)

pub end-unique : (C : Chip) (n : Rank) (at : ℕ) → Unique (Ended C n at)
end-unique C n at = one_answer (ended_of C n at)
