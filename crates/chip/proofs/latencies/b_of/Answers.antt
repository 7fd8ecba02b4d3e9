-- By the burst mode, and A12 where it decides.
-- Assumes nothing.
use borrow.Author.Rules.{rules}
use borrow.Author.Tests.{eq-eqb, ne_eqb}
use native.Mathlib.Nat.{div-one}
use Rattle.chip.specs.Latencies.{b_of}
use Rattle.chip.proofs.latencies.b_of.Goals as goal

pub returns-then-mode-eq0 : goal.returns-then-mode-eq0
unfolding b_of
returns-then-mode-eq0 c = (simp (div-one, eq-eqb _ _ c.if-mode-eq0.true), search rules)

pub returns-then-a-eq1 : goal.returns-then-a-eq1
unfolding b_of
returns-then-a-eq1 c = (simp (div-one, ne_eqb _ _ c.if-mode-eq0.false, eq-eqb _ _ c.if-mode-eq1.true, eq-eqb _ _ c.if-a-eq1.true), search rules)

pub returns-then-mode-eq1 : goal.returns-then-mode-eq1
unfolding b_of
returns-then-mode-eq1 c = (simp (div-one, ne_eqb _ _ c.if-mode-eq0.false, eq-eqb _ _ c.if-mode-eq1.true, ne_eqb _ _ c.if-a-eq1.false), search rules)

pub returns : goal.returns
unfolding b_of
returns c = (simp (div-one, ne_eqb _ _ c.if-mode-eq0.false, ne_eqb _ _ c.if-mode-eq1.false), search rules)
