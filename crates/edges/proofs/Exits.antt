-- The latest change of CKE is in range after a seldom command.
-- Assumes nothing.
use Prim.Native.Nat.{ℕ, ◌≤◌}
use mathlib.Core.Bool.{Bool}
use mathlib.Core.Path.{◌≡◌}
use lib.ListN.{get_or}
use Rattle.records.specs.declared.Record.{Record}
use Rattle.records.specs.declared.Command.{Command}
use Rattle.chip.specs.declared.Chip.{Chip}
use Rattle.running.specs.Ranges.{last_edge}
use Rattle.edges.specs.declared.Device.{Device}
use Rattle.edges.specs.Views.{CKE}
use Rattle.edges.specs.Next.{device_next}
use Rattle.edges.proofs.Ranging.{change-near}

pub near-after : (C : Chip) (c : Command) (r : Record) (e n : ℕ) (slow : Bool) (D : Device) {D' : Device} → D' ≡ device_next C c r e n slow D
    → get_or D.at CKE 0 ≤ last_edge → e ≤ last_edge → get_or D'.at CKE 0 ≤ last_edge
unfolding device_next
near-after C c r e n slow D is l m = rw is (change-near c r slow D.at e m l)
