-- Opening, one section and closing answer what the definitions of a whole recording say.
-- Assumes nothing.
use Rattle.std.proofs.Common.{refl, sym, ap, subst, arith, length-take}
use mathlib.Core.Path.{◌∙◌}
use Rattle.refusals.proofs.Answers.{never_0}
use Rattle.refusals.proofs.Passed.{passed}
use Rattle.judge.specs.Answers.{opened_as, taken_as, closed_as}
use Rattle.firmware.specs.Whole.{JudgedAs}
use Rattle.sections.proofs.Recordings.{too_short}
use Rattle.firmware.proofs.Wholes.{open-refuses, section-refuses, closes, by-verdict}
use Rattle.firmware.proofs.whole.judged.Goals as goal

pub returns-then-recording-lt6 : goal.returns-then-recording-lt6
returns-then-recording-lt6 c = too_short _ _ c.if-recording-lt6.true

pub slice_bounds-open-end : goal.slice_bounds-open-end
slice_bounds-open-end c = omega (arith, length-take 6 c.args.recording.now, c.if-recording-lt6.false)

pub returns-in_err-state : goal.returns-in_err-state
returns-in_err-state c =
    subst (JudgedAs c.args.recording.now c.args.end) (sym (passed c.from_residual.result _ c.from_residual.ensures.1))
    (open-refuses _ _ _ (ap opened_as (sym c.in_err-state.was) ∙ c.open.ensures) (never_0 _))

pub returns-in_err-taken : goal.returns-in_err-taken
returns-in_err-taken c =
    subst (JudgedAs c.args.recording.now c.args.end) (sym (passed c.from_residual-in_err-taken.result _ c.from_residual-in_err-taken.ensures.1))
    (section-refuses _ _ _ (ap opened_as (sym c.in_ok-state.was) ∙ c.open.ensures) refl _ (ap (taken_as _) (sym c.in_err-taken.was) ∙ c.section.ensures) (never_0 _))

pub returns-in_err-closed : goal.returns-in_err-closed
returns-in_err-closed c =
    subst (JudgedAs c.args.recording.now c.args.end) (sym (passed c.from_residual-in_err-closed.result _ c.from_residual-in_err-closed.ensures.1))
    (closes _ _ _ (ap opened_as (sym c.in_ok-state.was) ∙ c.open.ensures) refl _ (ap (taken_as _) (sym c.in_ok-taken.was) ∙ c.section.ensures) refl _
    (ap closed_as (sym c.in_err-closed.was) ∙ c.close.ensures))

pub returns : goal.returns
returns c =
    by-verdict _ _ _ (ap opened_as (sym c.in_ok-state.was) ∙ c.open.ensures) refl _ (ap (taken_as _) (sym c.in_ok-taken.was) ∙ c.section.ensures) refl _
    (ap closed_as (sym c.in_ok-closed.was) ∙ c.close.ensures) _ _ refl refl refl
