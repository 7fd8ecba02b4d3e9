-- The ranges of a rank: only those needed so that no sum wraps and no index runs out. 17 tests them; docs/RANGES.md lists them.
-- Assumes nothing.
use Rattle.std.specs.Prelude.{ℕ, zero, suc, ◌+◌, ◌-◌, ◌*◌, ◌/◌, ◌%◌, ◌≤◌, ◌<◌, Bool, true, ◌&&◌, List, ◌≡◌, leb, get_or, length}
use Rattle.chip.specs.declared.Chip.{Chip}
use Rattle.running.specs.Ranges.{limit, last_edge, counted, Small}
use Rattle.edges.specs.declared.Debt.{Debt}
use Rattle.edges.specs.declared.Device.{Device}
use Rattle.edges.specs.declared.Rank.{Rank}
use Rattle.edges.specs.Views.{CKE}
use Rattle.edges.specs.Next.{counting}

-- the edges at the places below n are at most 2^44
unfoldable pub edges_ok : List ℕ → (n : ℕ) → Bool
edges_ok xs zero = true
edges_ok xs (suc n) = edges_ok xs n && leb (get_or xs n 0) last_edge

-- seventeen intervals of the greatest length
abbrev pub farthest : ℕ
farthest = 1190000000

-- the debt's two edges are not farther than that from the edge, asleep not farther than that from 0
abbrev pub debt_ok : (edge : ℕ) → Debt → Bool
debt_ok e D = leb (D.due - counting D e) farthest && leb (D.gap - counting D e) farthest

abbrev pub Near : (edge : ℕ) → Debt → Type 0
Near e D = (D.due - counting D e ≤ farthest) × (D.gap - counting D e ≤ farthest)

-- the latest change of CKE
abbrev pub turned_ok : Device → Bool
turned_ok D = leb (get_or D.at CKE 0) last_edge

unfoldable pub rank_in_range : Rank → Bool
rank_in_range s =
    counted s.count s.edge
    && (debt_ok s.edge s.debt && (leb s.acts.turn 3 && (leb s.first.edge last_edge
    && (turned_ok s.device && (edges_ok s.banks.actat 8 && edges_ok s.acts.at 4)))))

-- the same as facts
pub record Ranged (s : Rank) : Type 0 where
  pub edge : s.edge ≤ s.count * 16777216
  pub count : s.count ≤ limit
  pub debt : Near s.edge s.debt
  pub turn : s.acts.turn ≤ 3
  pub broke : s.first.edge ≤ last_edge
  pub turned : get_or s.device.at CKE 0 ≤ last_edge
  pub acted : (b : ℕ) → b < 8 → get_or s.banks.actat b 0 ≤ last_edge
  pub ring : (i : ℕ) → i < 4 → get_or s.acts.at i 0 ≤ last_edge

-- what a section's records need: the ranges, and room for the records
pub record Ready (C : Chip) (s : Rank) (bytes : List ℕ) : Type 0 where
  pub small : Small C
  pub range : Ranged s
  pub sixes : length bytes % 6 ≡ 0
  pub room : s.count + length bytes / 6 ≤ limit
