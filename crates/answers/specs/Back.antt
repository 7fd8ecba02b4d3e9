-- A verdict read back from its bytes, as a caller in C reads it: 01, "A verdict is written in 20 bytes".
-- Assumes nothing.
use Rattle.std.specs.Prelude.{ℕ, ◌+◌, ◌*◌, ◌<◌, List, get_or}
use Rattle.answers.specs.declared.Verdict.{Verdict}

-- the number in the 24, and in the 48, bits from byte `at` on, most significant first
abbrev pub three : List ℕ → (at : ℕ) → ℕ
three bs at = get_or bs at 0 * 65536 + get_or bs (at + 1) 0 * 256 + get_or bs (at + 2) 0

abbrev pub six : List ℕ → (at : ℕ) → ℕ
six bs at = three bs at * 16777216 + three bs (at + 3)

-- "outcome 8 (0 clean, 1 broken), rule 8, record 24, partner 24, edge 48, needed 24, found 24"
unfoldable pub verdict_in : List ℕ → Verdict
verdict_in bs =
    record {
      outcome = get_or bs 0 0;
      rule = get_or bs 1 0;
      number = three bs 2;
      partner = three bs 5;
      edge = six bs 8;
      needed = three bs 14;
      found = three bs 17;
    }

-- each number fits its bits
pub record Fits (v : Verdict) : Type 0 where
  pub outcome_fits : v.outcome < 256
  pub rule_fits : v.rule < 256
  pub number_fits : v.number < 16777216
  pub partner-fits : v.partner < 16777216
  pub edge-fits : v.edge < 281474976710656
  pub needed-fits : v.needed < 16777216
  pub found-fits : v.found < 16777216
