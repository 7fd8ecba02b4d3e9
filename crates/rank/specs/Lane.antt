-- A rank in the lane: its track and the rest of it, and what a frequent command leaves behind.
-- Assumes nothing.
use Rattle.std.specs.Prelude.{ℕ, ◌+◌, ◌*◌, ◌≤◌, ◌<◌, Bool, List, cond, ◌≡◌, eqb, get_or}
use Rattle.records.specs.declared.Record.{Record}
use Rattle.records.specs.declared.Command.{Command}
use Rattle.chip.specs.declared.Chip.{Chip}
use Rattle.running.specs.declared.Asks.{Asks}
use Rattle.running.specs.Ranges.{limit, last_edge}
use Rattle.edges.specs.Ways.{shut_banks, shut_waits, shut_floor, act_banks, act_waits, act_acts, act_floor, four_at, col_banks, col_waits, column_floor, may_column, may_precharge, may_activate}
use Rattle.edges.specs.Views.{written_of}
use Rattle.edges.specs.Running.{Track, Rest, Turns, Quickly, all_written, track_of, rest_in}
use Rattle.edges.specs.Floors.{no_floor}
use Rattle.edges.specs.Folding.{Reached}
use Rattle.edges.specs.declared.Rank.{Rank}
use Rattle.edges.specs.Lane as lane
use Rattle.rank.specs.declared.lane.Lane.{Lane}
use Rattle.rank.specs.declared.passing.Next.{Next}

abbrev pub track : Lane → Track
track L = track_of L.rank L.floor

-- at another edge, with another count
abbrev pub track_at : Lane → (e n : ℕ) → Track
track_at L e n = record (track L) { edge = e; count = n }

abbrev pub rest : Lane → Rest
rest L = rest_in L.rank

-- a frequent command at the edge e, behind n records: no sum wraps, no index runs out
pub record Near (L : Lane) (e n : ℕ) : Type 0 where
  pub edge : e ≤ last_edge
  pub count : n + 1 ≤ limit
  pub turn : L.rank.acts.turn ≤ 3
  pub ring : (i : ℕ) → i < 4 → get_or L.rank.acts.at i 0 ≤ last_edge
  pub acted : (b : ℕ) → b < 8 → get_or L.rank.banks.actat b 0 ≤ last_edge

-- r comes at the edge e as record n, and leaves the lane as M; what it leaves alone
pub record Goes (C : Chip) (w : Asks) (r : Record) (e n : ℕ) (L M : Lane) : Type 0 where
  pub turns : (x m : ℕ) → e ≡ x + r.step → n ≡ m + 1 → Turns C w r L.rank.device (track_at L x m) (track_at M e n)
  pub same : rest M ≡ rest L

-- the quick way from a lane L at the track t to a lane M at the track u
pub record Came (C : Chip) (w : Asks) (clear : ℕ) (bytes : List ℕ) (L : Lane) (t : Track) (from : ℕ) (M : Lane) (u : Track) (at : ℕ) : Type 0 where
  pub quickly : Quickly C w (all_written L.rank.device) (written_of L.rank.device).dll clear bytes t from u at
  pub same : rest M ≡ rest L

-- what edges says of a track and the rest, of a lane
abbrev pub Stands : Chip → (bytes : List ℕ) → Lane → (at : ℕ) → Type 0
Stands C bytes L at = lane.Stands C bytes (rest L) (track L) at

abbrev pub Smoothly : Chip → (bytes : List ℕ) → Lane → (from : ℕ) → Lane → (at : ℕ) → Type 0
Smoothly C bytes L from M at = lane.Smoothly C bytes (rest L) (track L) from (rest M) (track M) at

abbrev pub Ahead : Chip → Record → Lane → Type 0
Ahead C r L = lane.Ahead C r (rest L) (track L)

abbrev pub Leaves : Chip → Command → Record → (e n : ℕ) → Lane → Lane → Type 0
Leaves C c r e n L M = lane.Leaves C c r e n (rest L) (track L) (rest M) (track M)

abbrev pub Passed : Chip → Record → (clear : ℕ) → (real : Bool) → Lane → Next → Lane → Type 0
Passed C r clear real L next M = lane.Came C r clear real (rest L) (track L) next.sets next.clear (rest M) (track M)

-- between two lanes: a section's records from s on have come to the lane's rank, and the floor is put in
pub record Stood (C : Chip) (bytes : List ℕ) (s : Rank) (L : Lane) (at : ℕ) : Type 0 where
  pub floored : L.floor ≡ no_floor
  pub reached : Reached C bytes s 0 L.rank at

-- ── What a frequent command leaves behind, on bank b at the edge e by record n ──────────────

-- a precharge
abbrev pub shut : Lane → (trp b e n : ℕ) → Lane
shut L p b e n =
    record {
      rank = record L.rank { banks = shut_banks L.rank.banks b e n; waits = shut_waits L.rank.waits b (e + p) };
      floor = shut_floor L.floor (e + p);
    }

-- a RD (y 0) or a WR (y 1)
abbrev pub column : Lane → Asks → (b y : ℕ) → (long : Bool) → (e n : ℕ) → Lane
column L w b y l e n =
    record {
      rank =
          record L.rank {
            banks = col_banks L.rank.banks w (eqb y 0) l (y * 8 + b) e n;
            waits = col_waits L.rank.waits w (eqb y 0) b e;
          };
      floor = column_floor L.floor w (eqb y 0) l e;
    }

-- an ACT
abbrev pub act : Lane → Chip → Asks → (b row e n : ℕ) → Lane
act L C w b a e n =
    record {
      rank = record L.rank { banks = act_banks L.rank.banks w b a e n; waits = act_waits L.rank.waits C w b e; acts = act_acts L.rank.acts e n };
      floor = act_floor L.floor (e + C.trrd) (four_at L.rank.acts.at L.rank.acts.no L.rank.acts.turn C.tfaw);
    }

-- ── May it come? ────────────────────────────────────────────────────────────────────────────

abbrev pub may_col : Lane → (b y e : ℕ) → Bool
may_col L b y e =
    may_column (get_or L.rank.banks.shutno b 0) (get_or L.rank.banks.actno b 0) (get_or L.rank.waits.col (y * 8 + b) 0) (cond (eqb y 0) L.floor.rd L.floor.wr) e

abbrev pub may_pre : Lane → (b e : ℕ) → Bool
may_pre L b e =
    may_precharge (get_or L.rank.banks.shutno b 0) (get_or L.rank.banks.actno b 0) (get_or L.rank.banks.shutat b 0) (get_or L.rank.waits.pre b 0) L.floor.pre e

abbrev pub may_act : Lane → (b e : ℕ) → Bool
may_act L b e =
    may_activate (get_or L.rank.banks.shutno b 0) (get_or L.rank.banks.actno b 0) (get_or L.rank.banks.shutat b 0) (get_or L.rank.waits.act b 0) L.floor.act e
