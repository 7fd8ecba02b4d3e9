-- How the record that breaks a rule is found: 01, "Least spacings" and "Partner: the latest earlier record breaking the rule".
-- Assumes nothing.
use Rattle.std.specs.Prelude.{ℕ, ◌-◌, Bool, cond, [], ◌∷◌, ltb}
use Rattle.records.specs.declared.Record.{Record}
use Rattle.answers.specs.declared.Break.{Break}
use Rattle.answers.specs.declared.Break.TheVariants.{Fine, Broken}
use Rattle.rules.specs.Past.{Past, edge, number}

-- rule k at the edge e, where the event number num, at the edge at, asks `need` clocks
abbrev pub short : (k e at num need : ℕ) → Break → Break
short k e at num need otherwise = cond (ltb (e - at) need) (Broken k num need (e - at)) otherwise

-- rule k at the edge e: the latest event of p since which there are fewer clocks than it asks, counted from the edge that `from` gives: in
-- every row the event's own
abbrev pub look_back : (from : Past → ℕ) → ℕ → (Past → ℕ) → ℕ → Past → Break
look_back from k asks e [] = Fine
look_back from k asks e (r ∷ p) = short k e (from (r ∷ p)) (number (r ∷ p)) (asks (r ∷ p)) (look_back from k asks e p)

-- what a rule asks that speaks of some events only
abbrev pub asking : (Past → Bool) → (Past → ℕ) → Past → ℕ
asking speaks need s = cond (speaks s) (need s) 0

-- A least spacing, by its rule's number: from an event of one kind to a later one of another, so many clocks. The later one says of
-- which banks the earlier must be; "registers in force are those at the earlier record".
pub record Spacing : Type 0 where
  pub name : ℕ
  pub to : Past → Bool
  pub from : (later earlier : Past) → Bool
  pub need : (earlier : Past) → ℕ

abbrev pub least : (name : ℕ) (from : Past → Past → Bool) (to : Past → Bool) (need : Past → ℕ) → Spacing
least k from to need = record { name = k; to = to; from = from; need = need }

-- the spacing at the event r ∷ p
abbrev pub row : Spacing → Record → Past → Break
row R r p = cond (R.to (r ∷ p)) (look_back edge R.name (asking (R.from (r ∷ p)) R.need) (edge (r ∷ p)) p) Fine
