-- Checks 17 and 8; then the ends.
-- Assumes nothing.
use mathlib.Core.Path.{refl, sym, ap, ◌∙◌}
use Rattle.chip.specs.declared.Chip.{Chip}
use Rattle.edges.specs.Ends.{ended_of}
use Rattle.judge.specs.Calls.{closed, close_of}
use Rattle.judge.proofs.Ranging.{ends, second-ends}
use Rattle.judge.proofs.State.close.Goals as goal

pub returns-then-not-in_range : goal.returns-then-not-in_range
unfolding close_of
returns-then-not-in_range c = rw (sym c.in_range.ensures ∙ c.if-not-in_range.true) refl

pub returns-then-end-self : goal.returns-then-end-self
unfolding close_of
returns-then-end-self c = rw (sym c.in_range.ensures ∙ c.if-not-in_range.false, c.if-end-self.true) refl

pub returns : goal.returns
unfolding close_of
returns c =
    let range = sym c.in_range.ensures ∙ c.if-not-in_range.false in
    let made = ap (λ (C : Chip). ended_of C c.args.self.one c.args.end) c.chip_of.ensures in
    let one = c.end.ensures ∙ made ∙ ends c.args.self range c.args.end c.if-end-self.false in
    let two = c.second_end.ensures ∙ second-ends c.args.self range c.args.end c.if-end-self.false in
    (λ i. closed (one i) (two i)) ∙ rw (range, c.if-end-self.false) refl
