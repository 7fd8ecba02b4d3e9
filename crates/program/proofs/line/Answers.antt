-- The line of what was refused, or of closing.
-- Assumes nothing.
use Rattle.std.proofs.Common.{sym, ap, subst, ne_eqb}
use mathlib.Core.Path.{◌∙◌}
use Rattle.judge.specs.Answers.{closed_as}
use Rattle.lines.specs.Line.{refusal_line, Printed}
use Rattle.program.specs.Answer.{closing_line, answer_line}
use Rattle.program.proofs.Runs.{closed-line}
use Rattle.refusals.proofs.Answers.{never_0}
use Rattle.program.proofs.line.Goals as goal

pub returns-then-run-ne0 : goal.returns-then-run-ne0
unfolding answer_line
returns-then-run-ne0 c = let p = c.refusal_line.ensures in (p.0, rw (ne_eqb _ 0 c.if-run-ne0.true) p.1)

pub returns-in-Ok : goal.returns-in-Ok
unfolding closing_line
returns-in-Ok c =
    let p = c.verdict_line.ensures in
    let is = ap (λ x. closing_line (closed_as x)) (sym c.in-Ok.is) ∙ closed-line _ _ _ c.if-run-ne0.false c.close.ensures in
    (p.0, subst (λ t. Printed t c.args.text.now c.verdict_line.result c.verdict_line.new.out) is p.1)

pub returns-in-Err : goal.returns-in-Err
unfolding closing_line
returns-in-Err c =
    let p = c.refusal_line-in-Err.ensures in
    let is = ap (λ x. closing_line (closed_as x)) (sym c.in-Err.is) ∙ closed-line _ _ _ c.if-run-ne0.false c.close.ensures in (
      p.0,
      subst (λ t. Printed t c.args.text.now c.refusal_line-in-Err.result c.refusal_line-in-Err.new.out)
          (ap refusal_line c.number.ensures ∙ rw (ne_eqb _ 0 (never_0 c.in-Err.refused)) at is) p.1,
    )
