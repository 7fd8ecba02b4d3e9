-- The second rank's line, of edition 2, where it was closed.
-- Assumes nothing.
use Rattle.std.proofs.Common.{sym, ap, subst, ne_eqb}
use mathlib.Core.Path.{◌∙◌}
use Rattle.judge.specs.Answers.{closed_as}
use Rattle.lines.specs.Line.{Printed}
use Rattle.lines.proofs.Texts.{counted}
use Rattle.program.specs.Answer.{closing_second}
use Rattle.program.proofs.Runs.{closed-second, no_second, nothing}
use Rattle.refusals.proofs.Answers.{never_0}
use Rattle.program.proofs.second_line.Goals as goal

pub returns-then-run : goal.returns-then-run
returns-then-run c = let p = no_second _ _ _ c.if-run.true in (counted p, p)

pub returns-in-Ok : goal.returns-in-Ok
unfolding closing_second
returns-in-Ok c =
    let p = c.verdict_line.ensures in
    let is = ap (λ x. closing_second (closed_as x)) (sym c.in-Ok.is) ∙ closed-second c.args.run.refused c.args.run.state _ c.if-run.false c.close.ensures in
    (p.0, subst (λ t. Printed t c.args.text.now c.verdict_line.result c.verdict_line.new.out) is p.1)

pub returns-in-Err : goal.returns-in-Err
unfolding closing_second
returns-in-Err c =
    let is = ap (λ x. closing_second (closed_as x)) (sym c.in-Err.is) ∙ closed-second c.args.run.refused c.args.run.state _ c.if-run.false c.close.ensures in
    let p = nothing _ c.args.text.now (sym (rw (ne_eqb _ 0 (never_0 c.in-Err.field-0)) at is)) in
    (counted p, p)
