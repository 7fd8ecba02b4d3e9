-- The fields of the word.
-- Assumes nothing.
use native.Mathlib.Nat.{div-one}
use Rattle.records.specs.Record.{fields_of}
use Rattle.records.proofs.fields.Goals as goal

pub returns : goal.returns
unfolding fields_of
returns c = simp div-one
