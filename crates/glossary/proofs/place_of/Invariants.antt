-- The rows before are of other kinds.
-- Assumes nothing.
use Prim.Native.Nat.{◌-◌}
use mathlib.Core.Path.{◌≡◌}
use Rattle.glossary.specs.Glossary.{place_from, place_of}
use Rattle.glossary.proofs.place_of.Given as goal

abbrev pub invariant-loop-i : goal.invariant-loop-i
invariant-loop-i l = place_from (27 - l.i) l.i l.kind ≡ place_of l.kind
