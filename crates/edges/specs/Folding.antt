-- A section's records, one after the other: what is left of it gives what the whole section gives.
-- Assumes nothing.
use Rattle.std.specs.Prelude.{ℕ, ◌+◌, ◌-◌, ◌*◌, ◌/◌, ◌%◌, ◌≤◌, true, false, cond, List, ◌≡◌, length, drop}
use Rattle.records.specs.Record.{records, has_zero}
use Rattle.chip.specs.declared.Chip.{Chip}
use Rattle.running.specs.Ranges.{limit, last_edge}
use Rattle.edges.specs.declared.Rank.{Rank}
use Rattle.edges.specs.Folded.{Folded}
use Rattle.edges.specs.Step.{fold_of}
use Rattle.edges.specs.Running.{Along}
use Rattle.edges.specs.Lane.{Fit, track_in}

-- the rank n after the records from `at` on; s, as it was, where a step of them is 0
abbrev pub folded_from : Chip → (s n : Rank) → (bytes : List ℕ) → (at : ℕ) → Folded
folded_from C s n bytes at =
    cond (has_zero (records (drop at bytes))) (record { zero = true; rank = s }) (record { zero = false; rank = fold_of C n (records (drop at bytes)) })

-- from a rank s at one place to n at a later one: n is not broken, and may go on
pub record Reached (C : Chip) (bytes : List ℕ) (s : Rank) (from : ℕ) (n : Rank) (at : ℕ) : Type 0 where
  pub fit : Fit C bytes at n.debt n.device (track_in n)
  pub holds : length n.waits.holds ≡ 4
  pub clean : n.first.outcome ≡ 0
  pub broke : n.first.edge ≤ last_edge
  pub along : Along C bytes s from n at
  pub later : from ≤ at

-- what counting needs: the rank is broken, and there is room
pub record Counting (n : Rank) (bytes : List ℕ) (at : ℕ) : Type 0 where
  pub broken : n.first.outcome ≡ 0 → ⊥
  pub within : at ≤ length bytes
  pub sixes : (length bytes - at) % 6 ≡ 0
  pub edge : n.edge ≤ n.count * 16777216
  pub room : n.count + (length bytes - at) / 6 ≤ limit

-- a broken rank n after the records before `from` has come to m before `at`
pub record Counts (bytes : List ℕ) (n : Rank) (from : ℕ) (m : Rank) (at : ℕ) : Type 0 where
  pub ready : Counting m bytes at
  pub along : (C : Chip) → Along C bytes n from m at
