-- Where the records of a lot stand in its files, and which of them has a number: by a walk over sections of bytes, and in the files as given.
-- Assumes nothing.
use Rattle.std.specs.Prelude.{Option, Some, None, ℕ, ◌+◌, ◌-◌, ◌*◌, ◌/◌, Bool, true, false, cond, List, [], ◌∷◌, ◌++◌, reverse, length, take, drop, ◌==◌, nat_lt, slice_index_or}
use Rattle.records.specs.declared.Record.{Record}
use Rattle.records.specs.Record.{fields_of, records, word_at, record_at}
use Rattle.tally.specs.declared.Spot.{Spot}
use Rattle.tally.specs.declared.Placed.{Placed}
use Rattle.tally.specs.Walk.{start, wrapped, next_of, found_of, event_of}

-- the bytes of a file before its first record: six of a header
abbrev pub skip_of : (headed : Bool) → ℕ
skip_of headed = cond headed 6 0

-- ── By a walk ───────────────────────────────────────────────────────────────────────────────

-- before the first file
abbrev pub start_of : (limit : ℕ) → Spot
start_of t = record { reached = start t; file = 0; at = 0 }

-- a file more
unfoldable pub begun_of : Spot → (headed : Bool) → Spot
begun_of s headed = record { reached = s.reached; file = wrapped (s.file + 1); at = skip_of headed }

-- a record more
unfoldable pub after_of : Spot → Record → Spot
after_of s r = record { reached = next_of s.reached r; file = s.file; at = wrapped (s.at + 6) }

-- a section more
abbrev pub passed_of : Spot → (words : List ℕ) → Spot
passed_of s [] = s
passed_of s (w ∷ ws) = passed_of (after_of s (fields_of w)) ws

-- the record that comes next
unfoldable pub placed_of : Spot → Record → (word : ℕ) → Placed
placed_of s r w = record { found = found_of s.reached r; file = s.file; at = s.at; word = w }

-- the section's record of number n
abbrev pub find_of : (n : ℕ) → Spot → (words : List ℕ) → Option Placed
find_of n s [] = None
find_of n s (w ∷ ws) =
    cond (wrapped (s.reached.number + 1) == n) (Some (placed_of s (fields_of w) w)) (find_of n (after_of s (fields_of w)) ws)

-- ── In the files as given ───────────────────────────────────────────────────────────────────

-- A file is the list of its bytes; headed: the first of these files begins with a header. A record is told by how many stand before it: the one
-- behind k others has number k + 1.

abbrev pub body_of : (headed : Bool) → (file : List ℕ) → List ℕ
body_of headed bs = drop (skip_of headed) bs

-- the lot's records: the whole records of each file in turn
abbrev pub records_of : (headed : Bool) → (files : List (List ℕ)) → List Record
records_of headed [] = []
records_of headed (bs ∷ files) = records (body_of headed bs) ++ records_of false files

-- how many whole records a file has
abbrev pub holds : (headed : Bool) → (file : List ℕ) → ℕ
holds headed bs = length (body_of headed bs) / 6

-- how many files stand before the one that has the record behind k others
abbrev pub files_before : (headed : Bool) → (files : List (List ℕ)) → (k : ℕ) → ℕ
files_before headed [] k = 0
files_before headed (bs ∷ files) k = cond (nat_lt k (holds headed bs)) 0 (files_before false files (k - holds headed bs) + 1)

-- the byte of that file at which the record begins
abbrev pub byte_of : (headed : Bool) → (files : List (List ℕ)) → (k : ℕ) → ℕ
byte_of headed [] k = 0
byte_of headed (bs ∷ files) k = cond (nat_lt k (holds headed bs)) (skip_of headed + 6 * k) (byte_of false files (k - holds headed bs))

-- that file
abbrev pub file_of : (headed : Bool) → (files : List (List ℕ)) → (k : ℕ) → List ℕ
file_of headed files k = slice_index_or files (files_before headed files k) []

-- Record number k + 1 of the lot: files count from 1, bytes from 0.
abbrev pub numbered : (limit : ℕ) → (files : List (List ℕ)) → (k : ℕ) → Placed
numbered t files k = record {
  found = event_of t (record_at (file_of true files k) (byte_of true files k)) (reverse (take k (records_of true files)));
  file = files_before true files k + 1;
  at = byte_of true files k;
  word = word_at (file_of true files k) (byte_of true files k);
}
