-- The sections that are left give the whole block's run.
-- Assumes nothing.
use Rattle.std.proofs.Common.{◌≡◌, ◌+◌, ◌-◌, sym, ap, arith, ℕ}
use mathlib.Core.Path.{◌∙◌}
use Rattle.program.specs.Program.{ran_over}
use Rattle.program.proofs.Blocks.{stopped, still, turned}
use Rattle.std.proofs.lemmas.Bool.{not-true, not-false}
use Rattle.program.proofs.over.Goals as goal

pub returns-then-not-run : goal.returns-then-not-run
returns-then-not-run c = let l = c.loop-turn in sym (stopped (10 - l.turn) l.run l.rest.now (not-true _ c.if-not-run.true)) ∙ l.invariant

pub loop-turn-preserved : goal.loop-turn-preserved
loop-turn-preserved c =
    let l = c.loop-turn in
    let parts = c.split_at.ensures in
    turned (10 - l.turn) (10 - (l.turn + 1)) l.run _ l.rest.now _ _ _ (omega (arith, c.loop-turn-test.true)) (not-false _ c.if-not-run.false)
    c.min.ensures parts.front parts.back c.next-run.ensures
    ∙ l.invariant

pub returns : goal.returns
returns c =
    let l = c.loop-turn in
    let none : 10 - l.turn ≡ 0 = omega (arith, c.loop-turn-test.false) in
    sym (still l.run l.rest.now) ∙ ap (λ (n : ℕ). ran_over n l.run l.rest.now) (sym none) ∙ l.invariant
