-- The fields of the word.
-- Assumes nothing.
use native.Mathlib.Nat.{div-one}
use Rattle.wide.specs.Wide.{fields_of}
use Rattle.wide.proofs.checks.fields.Goals as goal

pub returns : goal.returns
unfolding fields_of
returns c = simp div-one
