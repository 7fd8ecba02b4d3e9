-- What a broken verdict means: the earliest edge at which a rule is broken, the least rule broken there, its record, and the pair that 01
-- names for the rule.
-- Assumes nothing.
use Rattle.std.specs.Prelude.{ℕ, ◌≤◌, ◌<◌, ◌≡◌, ◌∷◌}
use Rattle.records.specs.declared.Record.{Record}
use Rattle.chip.specs.declared.Chip.{Chip}
use Rattle.rules.specs.Past.{Past, edge, number, ◌∈◌}
use Rattle.means.specs.Pairs.{Pair}
use Rattle.means.specs.Passing.{Late-pair, Debt-pair, Stay-pair, Gap-pair}
use Rattle.means.specs.Breaks.{BreaksAt}

module _ (C : Chip) (q : Past) where
  -- the record at t, "24 and 25: record none" and so 28 and 31, and the pair
  pub data How (t num partner needed found : ℕ) : (rule : ℕ) → Type 0 where
    record-did :
        {r : Record} {p : Past} {k : ℕ} → r ∷ p ∈ q → edge (r ∷ p) ≡ t → num ≡ number (r ∷ p) → Pair C r p partner needed found k
        → How t num partner needed found k
    limit-passed : num ≡ 0 → Late-pair C q t partner needed found → How t num partner needed found 24
    debt-grew : num ≡ 0 → Debt-pair C q t partner needed found → How t num partner needed found 25
    stay-passed : num ≡ 0 → Stay-pair C q t partner needed found → How t num partner needed found 28
    gap-passed : num ≡ 0 → Gap-pair C q t partner needed found → How t num partner needed found 31

  -- what it means that the recording closed at the edge `end` is broken
  pub record Broken-means (end t num rule partner needed found : ℕ) : Type 0 where
    pub from_one : 1 ≤ t
    pub to_end : t ≤ end
    pub broken : BreaksAt C q t rule
    pub earliest-edge : (s j : ℕ) → 0 < s → s < t → BreaksAt C q s j → ⊥
    pub least-rule : (j : ℕ) → BreaksAt C q t j → rule ≤ j
    pub how : How t num partner needed found rule
