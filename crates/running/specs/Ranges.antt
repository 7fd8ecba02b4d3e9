-- The limits of records, edges and clock counts below which no sum wraps. docs/RANGES.md lists them.
-- Assumes nothing.
use Rattle.std.specs.Prelude.{ℕ, ◌*◌, ◌≤◌, Bool, false, cond, ◌&&◌, leb, ltb}
use Rattle.chip.specs.declared.Chip.{Chip}

-- at most 1,048,576 records, and so at most 2^44 edges
abbrev pub limit : ℕ
limit = 1048576

abbrev pub last_edge : ℕ
last_edge = 17592186044416

-- sums of an edge and a clock count are made of edges up to this
abbrev pub far_edge : ℕ
far_edge = 35184372088832

-- clock counts that no sum of the judge can make wrap
pub record Small (C : Chip) : Type 0 where
  pub trcd : C.trcd ≤ 70000000
  pub trp : C.trp ≤ 70000000
  pub tras : C.tras ≤ 70000000
  pub tcke : C.tcke ≤ 70000000
  pub trtp : C.trtp ≤ 70000000
  pub twtr : C.twtr ≤ 70000000
  pub twr : C.twr ≤ 70000000
  pub most : C.most ≤ 70000000
  pub trefi : C.trefi ≤ 70000000
  pub nine : C.nine ≤ 80000000
  pub some : 1 ≤ C.trefi

-- the same, as a test
unfoldable pub is_small : Chip → Bool
is_small C =
    leb C.trcd 70000000
    && (leb C.trp 70000000 && (leb C.tras 70000000 && (leb C.tcke 70000000 && (leb C.trtp 70000000
    && (leb C.twtr 70000000 && (leb C.twr 70000000 && (leb C.most 70000000 && (leb C.trefi 70000000
    && (leb C.nine 80000000 && leb 1 C.trefi)))))))))

abbrev pub counted : (count edge : ℕ) → Bool
counted count edge = cond (ltb limit count) false (leb edge (count * 16777216))
