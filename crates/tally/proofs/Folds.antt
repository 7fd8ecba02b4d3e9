-- The loop that counts a section's records: one turn.
-- Assumes nothing.
use Rattle.std.proofs.Common.{◌≡◌, ℕ, ◌+◌, ◌≤◌, Bool, List, get_or, set, arith}
use Rattle.records.specs.declared.Record.{Record}
use Rattle.records.specs.Command.{asleep_after}
use Rattle.laws.proofs.Eight.{at_set}
use Rattle.tally.specs.declared.Tally.{Tally}
use Rattle.tally.specs.Kinds.{kind_at}
use Rattle.tally.specs.Tally.{step_of}

-- the tally behind a record, as the loop makes it
pub counted : (n : Tally) (r : Record) (k : ℕ) (z : Bool) → k ≡ kind_at n.level n.sleeps r → z ≡ asleep_after n.level n.sleeps r
    → step_of n r ≡ record { level = r.cke; sleeps = z; counts = set n.counts k (get_or n.counts k 0 + 1) }
unfolding step_of
counted n r k z is after = rw (is, after)

-- no count grows by more than one
pub grown : (counts : List ℕ) (m k : ℕ) → ((j : ℕ) → get_or counts j 0 ≤ m) → (j : ℕ) → get_or (set counts k (get_or counts k 0 + 1)) j 0 ≤ m + 1
grown counts m k h j =
    at_set (λ (x : ℕ). x ≤ m + 1) 0 counts k (get_or counts k 0 + 1) j (omega (arith, h k)) (omega (arith, h j))
