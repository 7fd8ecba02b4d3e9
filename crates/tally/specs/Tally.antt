-- The tally and a section of it, for every tally and every input.
-- Assumes nothing.
use Rattle.std.specs.Prelude.{Result, Ok, Err, ◌≡◌, ℕ, ◌+◌, ◌%◌, ◌≤◌, Bool, true, false, cond, List, [], ◌∷◌, length, replicate, ◌==◌, nat_lt, slice_index, slice_set}
use Rattle.records.specs.declared.Record.{Record}
use Rattle.records.specs.Record.{records}
use Rattle.records.specs.Command.{asleep_after}
use Rattle.tally.specs.declared.Tally.{Tally}
use Rattle.refusals.specs.declared.Refusal.{Refusal}
use Rattle.refusals.specs.declared.Refusal.TheVariants.{CutShort, State}
use Rattle.refusals.specs.Refusals.{number_in}
use Rattle.tally.specs.Kinds.{kind_at}

-- "CKE is high before the first record", and the part awake; nothing is counted yet
abbrev pub start : Tally
start = record { level = true; sleeps = false; counts = replicate 19 0 }

-- one more of a kind
abbrev pub raised : List ℕ → (kind : ℕ) → List ℕ
raised counts k = slice_set counts k (slice_index counts k + 1)

-- a record more
unfoldable pub step_of : Tally → Record → Tally
step_of t r = record {
  level = r.cke;
  sleeps = asleep_after t.level t.sleeps r;
  counts = raised t.counts (kind_at t.level t.sleeps r);
}

-- records in turn
abbrev pub fold_of : Tally → List Record → Tally
fold_of t [] = t
fold_of t (r ∷ rs) = fold_of (step_of t r) rs

-- no sum of a section wraps from a count up to this
abbrev pub largest : ℕ
largest = 1152921504606846976

abbrev pub in_range : List ℕ → Bool
in_range [] = true
in_range (n ∷ ns) = cond (nat_lt largest n) false (in_range ns)

-- | 17 | .. only those needed so that no sum wraps |, then | 5 | section length not a multiple of 6 |
unfoldable pub section_of : Tally → (bytes : List ℕ) → Result Tally Refusal
section_of t bs =
    cond (in_range t.counts) (cond (length bs % 6 == 0) (Ok (fold_of t (records bs))) (Err CutShort)) (Err State)

-- "A refusal returns its number alone": 0 where there is none
abbrev pub refused_of : Result Tally Refusal → ℕ
refused_of r = number_in r

-- "and the state unaltered": the tally behind a section that is offered to t
abbrev pub behind : (t : Tally) → Result Tally Refusal → Tally
behind t (Ok n) = n
behind t (Err e) = t

-- what the records of a section need
pub record Ready (t : Tally) (bytes : List ℕ) : Type 0 where
  pub range : (k : ℕ) → slice_index t.counts k ≤ largest
  pub sixes : length bytes % 6 ≡ 0
