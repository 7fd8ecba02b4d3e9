-- What the bit that is named is: 02, Q-5, "the lowest-numbered address bit belonging to a field that isn't allowed".
-- Assumes nothing.
use Rattle.std.specs.Prelude.{ℕ, ◌≤◌, true, false, List, ◌≡◌}
use Rattle.laws.specs.Among.{Among}
use Rattle.registers.specs.Allowed.{Field}

-- a field that is not allowed has it as its lowest, and no such field has a lower one
pub record Lowest (fs : List Field) (bit : ℕ) : Type 0 where
  pub field : Field
  pub among : Among field fs
  pub bad : field.ok ≡ false
  pub is : bit ≡ field.low
  pub least : (f : Field) → Among f fs → f.ok ≡ false → bit ≤ f.low

-- every field is allowed
abbrev pub AllAllowed : List Field → Type 0
AllAllowed fs = (f : Field) → Among f fs → f.ok ≡ true
