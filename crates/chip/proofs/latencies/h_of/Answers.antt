-- Four fixed by MR0, or not.
-- Assumes nothing.
use borrow.Author.Rules.{rules}
use borrow.Author.Tests.{eq-eqb, ne_eqb}
use native.Mathlib.Nat.{div-one}
use Rattle.chip.specs.Latencies.{h_of}
use Rattle.chip.proofs.latencies.h_of.Goals as goal

pub returns-then-g-eq2 : goal.returns-then-g-eq2
unfolding h_of
returns-then-g-eq2 c = (rw (div-one, eq-eqb _ _ c.if-g-eq2.true), search rules)

pub returns : goal.returns
unfolding h_of
returns c = (rw (div-one, ne_eqb _ _ c.if-g-eq2.false), search rules)
