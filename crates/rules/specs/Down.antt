-- Power-down: 02, Q-1, "drops CKE with NOP or DES between lookups".
-- Assumes nothing.
use Rattle.std.specs.Prelude.{Bool, false, not, ◌&&◌, [], ◌∷◌}
use Rattle.laws.specs.Any.{any_of}
use Rattle.records.specs.declared.Command.TheVariants.{Pde, Pdx}
use Rattle.codes.specs.Codes.{set}
use Rattle.chip.specs.declared.Chip.{Chip}
use Rattle.rules.specs.Past.{Past, edge, changes, is, latest}
use Rattle.rules.specs.Registers.{mr}
use Rattle.rules.specs.Banks.{is_open, status}

-- the latest change of CKE, which is the entry of a part that is in power-down
abbrev pub turned : Past → Past
turned p = latest changes p

abbrev pub down : Past → Bool
down p = is Pde (turned p)

module _ (C : Chip) where
  -- "precharge power-down": no bank is open at the entry; one that is closing counts as closed
  unfoldable pub precharged : (entry : Past) → Bool
  precharged s = not (any_of (λ b. is_open (status C b s (edge s))) 8)

  -- an exit "after precharge power-down with MR0 A12 = 0", which counts as it stands at the exit
  unfoldable pub slow_exit : Past → Bool
  slow_exit [] = false
  slow_exit (r ∷ p) = is Pdx (r ∷ p) && ((mr 0 p).written && (not (set (mr 0 p).code 12) && precharged (turned p)))
