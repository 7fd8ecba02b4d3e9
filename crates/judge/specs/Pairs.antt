-- Both ranks in a section of edition 2, whose records are narrowed and taken 1,000 at a time, or only counted.
-- Assumes nothing.
use Rattle.std.specs.Prelude.{ℕ, ◌+◌, ◌/◌, ◌%◌, ◌≤◌, Bool, true, false, cond, ◌||◌, List, ◌≡◌, length}
use Rattle.records.specs.Record.{records, has_zero}
use Rattle.wide.specs.Wide.{wides, has_spare}
use Rattle.wide.specs.Moved.{narrow}
use Rattle.wide.specs.Steps.{steps_seen}
use Rattle.chip.specs.declared.Chip.{Chip}
use Rattle.running.specs.Ranges.{limit, Small}
use Rattle.edges.specs.declared.Rank.{Rank}
use Rattle.edges.specs.Step.{later_of, fold_of}
use Rattle.edges.specs.Ranges.{rank_in_range}
use Rattle.judge.specs.declared.State.{State}
use Rattle.std.specs.Prelude.{Option, None, Some}
use Rattle.judge.specs.declared.Pair.{Pair as Handed}
use Rattle.judge.specs.declared.Single.{Single as HandedOne}

-- both ranks, whether a step was 0, and whether zero bits were set
pub record Pair : Type 0 where
  pub zero : Bool
  pub spare : Bool
  pub one : Rank
  pub two : Rank

pub record Single : Type 0 where
  pub zero : Bool
  pub spare : Bool
  pub rank : Rank

abbrev pub pair_of : (zero spare : Bool) → (one two : Rank) → Pair
pair_of zero spare one two = record { zero = zero; spare = spare; one = one; two = two }

-- what was handed in, and what is handed back: none where a step is 0
abbrev pub begun : Handed → Pair
begun p = pair_of false p.spare p.one p.two

abbrev pub pair_as : Handed → Option Handed → Pair
pair_as p None = pair_of true p.spare p.one p.two
pair_as p (Some q) = begun q

-- before a section
abbrev pub begun_of : State → Pair
begun_of s = pair_of false false s.one s.two

-- after all of its records, if no step is 0
abbrev pub after_of : Chip → Pair → (bytes : List ℕ) → Pair
after_of C p bs = record {
  zero = false;
  spare = p.spare || has_spare (wides bs);
  one = fold_of C p.one (records (narrow false bs));
  two = fold_of C p.two (records (narrow true bs));
}

-- the same of two broken ranks
abbrev pub counted_of : Pair → (bytes : List ℕ) → Pair
counted_of p bs =
    let s = steps_seen (wides bs) in
    record {
      zero = s.zero;
      spare = p.spare || s.spare;
      one = later_of p.one s.sum (length bs / 8);
      two = later_of p.two s.sum (length bs / 8);
    }

-- none of them, where a step is 0
abbrev pub counts_of : Handed → (bytes : List ℕ) → Pair
counts_of p bs = cond (steps_seen (wides bs)).zero (pair_as p None) (counted_of (begun p) bs)

-- the first rank or the second
abbrev pub rank_in : Pair → (second : Bool) → Rank
rank_in p second = cond second p.two p.one

abbrev pub single_of : (zero spare : Bool) → Rank → Single
single_of zero spare n = record { zero = zero; spare = spare; rank = n }

abbrev pub single_as : Rank → Option HandedOne → Single
single_as n None = single_of true false n
single_as n (Some r) = single_of false r.spare r.rank

-- whether a step is 0, and if none is, what the section leads to
pub record Took (C : Chip) (p : Pair) (bytes : List ℕ) (r : Pair) : Type 0 where
  pub zero : r.zero ≡ has_zero (records (narrow false bytes))
  pub after : r.zero ≡ false → r ≡ after_of C p bytes

-- what the section's records need of a rank, and of both
pub record Fit (n : Rank) (bytes : List ℕ) : Type 0 where
  pub range : rank_in_range n ≡ true
  pub room : n.count + length bytes / 8 ≤ limit

pub record Able (C : Chip) (n : Rank) (bytes : List ℕ) : Type 0 where
  pub small : Small C
  pub eights : length bytes % 8 ≡ 0
  pub fit : Fit n bytes

pub record Ready (C : Chip) (p : Pair) (bytes : List ℕ) : Type 0 where
  pub small : Small C
  pub clear : p.zero ≡ false
  pub eights : length bytes % 8 ≡ 0
  pub first : Fit p.one bytes
  pub second : Fit p.two bytes

-- the same of one rank, whether a step is 0, and what the section leads to
pub record Alone (C : Chip) (second : Bool) (n : Rank) (bytes : List ℕ) (r : Single) : Type 0 where
  pub zero : r.zero ≡ has_zero (records (narrow second bytes))
  pub seen : r.zero ≡ false → r.spare ≡ has_spare (wides bytes)
  pub after : r.zero ≡ false → r.rank ≡ fold_of C n (records (narrow second bytes))
