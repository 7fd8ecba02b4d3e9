-- Check 17; then by the edition.
-- Assumes nothing.
use mathlib.Core.Path.{refl, sym, ◌∙◌}
use Rattle.judge.specs.Calls.{section_of}
use Rattle.judge.proofs.Ranging.{tested}
use Rattle.judge.proofs.State.section.Goals as goal

pub returns-then-not-in_range : goal.returns-then-not-in_range
unfolding section_of
returns-then-not-in_range c = rw (sym c.in_range.ensures ∙ c.if-not-in_range.true) refl

pub of_two-requires : goal.of_two-requires
of_two-requires c = let range = sym c.in_range.ensures ∙ c.if-not-in_range.false in record { s_value = range; edition_value = c.if-self-eq2.true }

pub of_one-requires : goal.of_one-requires
of_one-requires c = let range = sym c.in_range.ensures ∙ c.if-not-in_range.false in record { s_value = range; edition_value = (tested _ range).only c.if-self-eq2.false }
