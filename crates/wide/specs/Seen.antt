-- What stands in the way of a move, of all records: checks 6, 14, 13.
-- Assumes nothing.
use Rattle.std.specs.Prelude.{false, not, ◌||◌, List, map, eqb}
use Rattle.records.specs.Record.{has_zero}
use Rattle.wide.specs.declared.Wide.{Wide}
use Rattle.wide.specs.declared.Seen.{Seen}
use Rattle.wide.specs.Wide.{rank_of, has_spare, returns, cannot_return}

-- none yet
abbrev pub seen_none : Seen
seen_none = record { zero = false; spare = false; stays = false }

-- a record more
unfoldable pub seen_more : Seen → Wide → Seen
seen_more s w = record { zero = s.zero || eqb w.step 0; spare = s.spare || not (eqb w.zero 0); stays = s.stays || not (returns w) }

-- what was seen before, or some record gives: | 6 | some record's step is 0 |, | 14 | zero bits set |, | 13 | a record can't go back |
abbrev pub seen_of : Seen → List Wide → Seen
seen_of s ws = record {
  zero = s.zero || has_zero (map (rank_of false) ws);
  spare = s.spare || has_spare ws;
  stays = s.stays || cannot_return ws;
}
