-- The loop over a section's records: what it holds in arrays, where it stands, and that what is left to be folded stays the same.
-- Assumes nothing.
use Rattle.std.specs.Prelude.{ℕ, ◌+◌, ◌-◌, ◌*◌, ◌/◌, ◌%◌, ◌≤◌, ◌<◌, Bool, true, ◌&&◌, List, ◌⊎◌, ◌≡◌, get_or, length, drop}
use Rattle.answers.specs.declared.Verdict.{Verdict}
use Rattle.records.specs.declared.Record.{Record}
use Rattle.records.specs.Record.{records, record_at, has_zero}
use Rattle.chip.specs.declared.Chip.{Chip}
use Rattle.running.specs.declared.Asks.{Asks}
use Rattle.running.specs.Easy.{Asked}
use Rattle.running.specs.Ranges.{limit, last_edge, Small}
use Rattle.edges.specs.declared.Banks.{Banks}
use Rattle.edges.specs.declared.Acts.{Acts}
use Rattle.edges.specs.declared.Device.{Device}
use Rattle.edges.specs.declared.Debt.{Debt}
use Rattle.edges.specs.declared.Floor.{Floor}
use Rattle.edges.specs.declared.Rank.{Rank}
use Rattle.edges.specs.Views.{regs_of, written_of}
use Rattle.edges.specs.Says.{dues_of}
use Rattle.edges.specs.Clearing.{Owing}
use Rattle.edges.specs.Step.{fold_of}
use Rattle.edges.specs.Floors.{settled}

-- what the frequent commands change
pub record Track : Type 0 where
  pub edge : ℕ
  pub count : ℕ
  pub banks : Banks
  pub act : List ℕ
  pub col : List ℕ
  pub pre : List ℕ
  pub acts : Acts
  pub floor : Floor

-- and what they leave alone
pub record Rest : Type 0 where
  pub first : Verdict
  pub level : Bool
  pub debt : Debt
  pub holds : List ℕ
  pub device : Device

-- the rank of both, with no floor put in, and with it
abbrev pub held_by : Rest → Track → Rank
held_by d t =
    record {
      edge = t.edge;
      count = t.count;
      first = d.first;
      level = d.level;
      debt = d.debt;
      banks = t.banks;
      waits = record { act = t.act; col = t.col; pre = t.pre; holds = d.holds };
      acts = t.acts;
      device = d.device;
    }

abbrev pub rank_of : Rest → Track → Rank
rank_of d t = settled t.floor (held_by d t)

-- all four registers are written
abbrev pub all_written : Device → Bool
all_written D = let w = written_of D in w.w0 && (w.w1 && (w.w2 && w.w3))

-- what the quick way knows of the rest: nothing is broken, CKE is high, w is what the registers ask, set and dll what is written, and no
-- deadline of the debt passes before the edge clear
pub record Quiet (C : Chip) (w : Asks) (set dll : Bool) (clear : ℕ) (d : Rest) : Type 0 where
  pub clean : d.first.outcome ≡ 0
  pub level : d.level ≡ true
  pub asked : Asked C (regs_of d.device) w
  pub written : all_written d.device ≡ set
  pub reset : (written_of d.device).dll ≡ dll
  pub owed : Owing d.debt clear

-- where the loop stands in the bytes: no sum wraps, no index runs out, no bank comes due before the edge clear, and none has an ACT of a
-- record to come
pub record Standing (C : Chip) (clear : ℕ) (bytes : List ℕ) (at : ℕ) (t : Track) : Type 0 where
  pub small : Small C
  pub within : at ≤ length bytes
  pub sixes : (length bytes - at) % 6 ≡ 0
  pub edge : t.edge ≤ t.count * 16777216
  pub room : t.count + (length bytes - at) / 6 ≤ limit
  pub turn : t.acts.turn ≤ 3
  pub acted : (b : ℕ) → b < 8 → get_or t.banks.actat b 0 ≤ last_edge
  pub ring : (i : ℕ) → i < 4 → get_or t.acts.at i 0 ≤ last_edge
  pub acting : t.edge < clear → (b : ℕ) → b < 8 → get_or t.banks.actno b 0 ≤ t.count
  pub due : (b : ℕ) → b < 8 → (get_or (dues_of C t.banks) b 0 ≤ t.edge) ⊎ (clear ≤ get_or (dues_of C t.banks) b 0)
  pub soon : clear ≤ t.edge + C.most + 1
  pub actsize : length t.act ≡ 8
  pub colsize : length t.col ≡ 16
  pub presize : length t.pre ≡ 8
  pub actedsize : length t.banks.actat ≡ 8
  pub numsize : length t.banks.actno ≡ 8
  pub shutsize : length t.banks.shutat ≡ 8
  pub bysize : length t.banks.shutno ≡ 8
  pub ringsize : length t.acts.at ≡ 4

-- from one place to a later one: what is left to be folded gives the same, and a step of 0 is still ahead if it was
pub record Along (C : Chip) (bytes : List ℕ) (n : Rank) (at : ℕ) (n' : Rank) (at' : ℕ) : Type 0 where
  pub same : fold_of C n' (records (drop at' bytes)) ≡ fold_of C n (records (drop at bytes))
  pub zero : has_zero (records (drop at' bytes)) ≡ has_zero (records (drop at bytes))

-- what the quick way promises
pub record Quickly (C : Chip) (w : Asks) (set dll : Bool) (clear : ℕ) (bytes : List ℕ) (t : Track) (at : ℕ) (t' : Track) (at' : ℕ) : Type 0 where
  pub stands : Standing C clear bytes at' t'
  pub along : (d : Rest) → Quiet C w set dll clear d → Along C bytes (rank_of d t) at (rank_of d t') at'
  pub later : at ≤ at'
  pub grows : t.edge ≤ t'.edge
  pub below : t.edge < clear → t'.edge < clear
  pub still : clear ≤ t.edge → (t' ≡ t) × (at' ≡ at)

-- a frequent command r that is fine takes the track t to t', whatever the loop has come through; D: the device
pub record Turns (C : Chip) (w : Asks) (r : Record) (D : Device) (t t' : Track) : Type 0 where
  pub further : (clear : ℕ) (bytes : List ℕ) (t₀ : Track) (at₀ at : ℕ) → Quickly C w (all_written D) (written_of D).dll clear bytes t₀ at₀ t at
      → at < length bytes → r ≡ record_at bytes at → (r.step ≡ 0 → ⊥) → r.cke ≡ true → t.edge + r.step < clear
      → Quickly C w (all_written D) (written_of D).dll clear bytes t₀ at₀ t' (at + 6)

-- the track of a rank and of what was asked since
abbrev pub track_of : Rank → Floor → Track
track_of s f =
    record {
      edge = s.edge;
      count = s.count;
      banks = s.banks;
      act = s.waits.act;
      col = s.waits.col;
      pre = s.waits.pre;
      acts = s.acts;
      floor = f;
    }

-- and the rest of it
abbrev pub rest_in : Rank → Rest
rest_in s = record { first = s.first; level = s.level; debt = s.debt; holds = s.waits.holds; device = s.device }
