-- The lane: frequent commands, and seldom ones that may come, over what is kept in arrays. Where it stands between two records.
-- Assumes nothing.
use Rattle.std.specs.Prelude.{ℕ, ◌+◌, ◌≤◌, ◌<◌, Bool, true, false, cond, List, ◌⊎◌, ◌≡◌, eqb, leb, get_or}
use Rattle.laws.specs.Eight.{table}
use Rattle.records.specs.declared.Record.{Record}
use Rattle.records.specs.declared.Command.{Command}
use Rattle.records.specs.declared.Command.TheVariants.{Mrs, Pre, Pdx}
use Rattle.records.specs.Command.{is_a, command_of}
use Rattle.chip.specs.declared.Chip.{Chip}
use Rattle.running.specs.declared.Asks.{Asks}
use Rattle.running.specs.Easy.{Asked}
use Rattle.running.specs.Ranges.{Small, limit, last_edge, far_edge}
use Rattle.edges.specs.declared.Device.{Device}
use Rattle.edges.specs.declared.Debt.{Debt}
use Rattle.edges.specs.declared.Rank.{Rank}
use Rattle.edges.specs.Views.{regs_of, CKE}
use Rattle.edges.specs.Next.{debt_next, device_next, slow_now}
use Rattle.edges.specs.Says.{dues_of}
use Rattle.edges.specs.Clearing.{Owing, Staying, clear_next}
use Rattle.edges.specs.Floors.{no_floor}
use Rattle.edges.specs.Ways.{floor_next, holds_next}
use Rattle.edges.specs.Seldom.{MayCome}
use Rattle.edges.specs.Ranges.{Near}
use Rattle.edges.specs.Running.{Track, Rest, rank_of, Standing, Along, track_of}

-- ── A rank taken apart ──────────────────────────────────────────────────────────────────────

abbrev pub track_in : Rank → Track
track_in s = track_of s no_floor

-- ── Where it stands ─────────────────────────────────────────────────────────────────────────

-- no sum wraps, no index runs out
pub record Fit (C : Chip) (bytes : List ℕ) (at : ℕ) (x : Debt) (D : Device) (t : Track) : Type 0 where
  pub base : Standing C 0 bytes at t
  pub debt : Near t.edge x
  pub turned : get_or D.at CKE 0 ≤ last_edge

-- no deadline passes before the edge clear, and clear is not far
pub record Clear (C : Chip) (clear : ℕ) (d : Rest) (t : Track) : Type 0 where
  pub due : (b : ℕ) → b < 8 → (get_or (dues_of C t.banks) b 0 ≤ t.edge) ⊎ (clear ≤ get_or (dues_of C t.banks) b 0)
  pub near : clear ≤ t.edge + C.most + 1
  pub owed : Owing d.debt clear
  pub stays : Staying d.level d.debt.sleeps (get_or d.device.at CKE 0) C.nine clear

-- what is left to be folded gives what s gives from a place on. real: no bank has an ACT of a record to come. stale: w is to be worked out anew
pub record Folding (C : Chip) (s : Rank) (from : ℕ) (bytes : List ℕ) (clear : ℕ) (real stale : Bool) (w : Asks) (d : Rest) (t : Track) (at : ℕ) : Type 0 where
  pub along : Along C bytes s from (rank_of d t) at
  pub later : from ≤ at
  pub base : Standing C 0 bytes at t
  pub free : Clear C clear d t
  pub acting : real ≡ true → (b : ℕ) → b < 8 → get_or t.banks.actno b 0 ≤ t.count
  pub clean : d.first.outcome ≡ 0
  pub broke : d.first.edge ≤ last_edge
  pub asked : stale ≡ false → Asked C (regs_of d.device) w
  pub debt : Near t.edge d.debt
  pub turned : get_or d.device.at CKE 0 ≤ last_edge

-- what the lane needs of where it stands, and promises of where it ends
pub record Stands (C : Chip) (bytes : List ℕ) (d : Rest) (t : Track) (at : ℕ) : Type 0 where
  pub fit : Fit C bytes at d.debt d.device t
  pub clean : d.first.outcome ≡ 0
  pub broke : d.first.edge ≤ last_edge

pub record Smoothly (C : Chip) (bytes : List ℕ) (d₀ : Rest) (t₀ : Track) (from : ℕ) (d : Rest) (t : Track) (at : ℕ) : Type 0 where
  pub stands : Stands C bytes d t at
  pub along : Along C bytes (rank_of d₀ t₀) from (rank_of d t) at
  pub later : from ≤ at

-- ── A seldom command ────────────────────────────────────────────────────────────────────────

-- the rest after a seldom command, and the track: a PRE of all banks shuts them. slow: an exit is one of precharge power-down with MR0 A12 = 0
abbrev pub rest_after : Chip → Command → Record → (e n : ℕ) → (slow : Bool) → Rest → Rest
rest_after C c r e n slow d =
    record {
      first = d.first;
      level = r.cke;
      debt = debt_next C c e d.debt;
      holds = holds_next C c r e d.holds;
      device = device_next C c r e n slow d.device;
    }

abbrev pub track_after : Chip → Command → Record → (e n : ℕ) → (slow : Bool) → Track → Track
track_after C c r e n slow t =
    record t {
      edge = e;
      count = n;
      banks = record t.banks { shutat = cond (is_a Pre c) (table (λ _. e)) t.banks.shutat; shutno = cond (is_a Pre c) (table (λ _. n)) t.banks.shutno };
      floor = floor_next C c r slow e t.floor;
    }

-- what it leaves behind at the edge e, as record n; a PRE is one of all banks
pub record Leaves (C : Chip) (c : Command) (r : Record) (e n : ℕ) (d : Rest) (t : Track) (d' : Rest) (t' : Track) : Type 0 where
  pub slow : Bool
  pub slowly : is_a Pdx c ≡ true → slow ≡ slow_now t.banks d.device
  pub rest : d' ≡ rest_after C c r e n slow d
  pub track : t' ≡ track_after C c r e n slow t

-- the next record can be looked at: no sum wraps
pub record Ahead (C : Chip) (r : Record) (d : Rest) (t : Track) : Type 0 where
  pub small : Small C
  pub edge : t.edge + r.step ≤ last_edge
  pub count : t.count + 1 ≤ limit
  pub debt : (d.debt.due ≤ far_edge) × (d.debt.gap ≤ far_edge)
  pub turned : get_or d.device.at CKE 0 ≤ last_edge

-- the record r is a seldom command that may come before the edge clear, and what it leaves behind; real: no bank has an ACT of a record to come;
-- mode: it is an MRS
pub record Came (C : Chip) (r : Record) (clear : ℕ) (real : Bool) (d : Rest) (t : Track) (mode : Bool) (clear' : ℕ) (d' : Rest) (t' : Track) : Type 0 where
  pub command : Command
  pub names : command ≡ command_of d.level d.debt.sleeps r
  pub some : eqb r.step 0 ≡ false
  pub before : leb clear (t.edge + r.step) ≡ false
  pub may : MayCome C command r (t.edge + r.step) t.floor t.banks t.pre d.holds d.device
  pub left : Leaves C command r (t.edge + r.step) (t.count + 1) d t d' t'
  pub clears : clear' ≡ clear_next C.most C.nine command (t.edge + r.step) (get_or d'.device.at CKE 0) d'.debt clear
  pub acts : is_a Pre command ≡ true → real ≡ true
  pub sets : mode ≡ is_a Mrs command
