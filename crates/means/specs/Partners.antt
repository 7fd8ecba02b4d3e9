-- Which event is a partner: the latest of a kind, the fourth ACT back, the latest that breaks a least spacing (01, "Partner").
-- Assumes nothing.
use Rattle.std.specs.Prelude.{ℕ, ◌-◌, ◌≤◌, ◌<◌, ◌≡◌, Bool, true}
use mathlib.Core.List.{◌∷◌, tail}
use Rattle.records.specs.declared.Record.{Record}
use Rattle.records.specs.declared.Command.TheVariants.{Act}
use Rattle.rules.specs.Past.{Past, edge, number, is, ◌∈◌}
use Rattle.rules.specs.Search.{Spacing}

-- s is the latest event of the kind k in p
pub record Latest (k : Past → Bool) (p s : Past) : Type 0 where
  pub event : s ∈ p
  pub kind : k s ≡ true
  pub last : (t : Past) → t ∈ p → k t ≡ true → number t ≤ number s

-- s is the ACT of p after which there were three more: the latest before the latest before ..
abbrev pub Fourth : (p s : Past) → Type 0
Fourth p s = (a b c : Past) × Latest (is Act) p a × Latest (is Act) (tail a) b × Latest (is Act) (tail b) c × Latest (is Act) (tail c) s

-- "Partner: the latest earlier record breaking the rule": at the record r after p, with the clocks of that pair
pub record Row-pair (R : Spacing) (r : Record) (p : Past) (partner needed found : ℕ) : Type 0 where
  pub later : R.to (r ∷ p) ≡ true
  pub event : Past
  pub within : event ∈ p
  pub earlier : R.from (r ∷ p) event ≡ true
  pub partner-is : partner ≡ number event
  pub needed-is : needed ≡ R.need event
  pub found-is : found ≡ edge (r ∷ p) - edge event
  pub too_few : found < needed
  pub last : (s : Past) → s ∈ p → R.from (r ∷ p) s ≡ true → partner < number s → R.need s ≤ edge (r ∷ p) - edge s
