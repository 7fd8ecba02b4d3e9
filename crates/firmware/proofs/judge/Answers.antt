-- `judge` meets its contract, by what the whole recording's judging and the writing of the verdicts ensure.
-- Assumes nothing.
use Prim.Native.Nat.{ℕ, ◌<◌, ◌≤◌}
use mathlib.Core.Path.{refl, ap, sym, subst, ◌∙◌}
use lib.Dec.{eqb}
use lib.ListN.{length}
use Rattle.refusals.specs.Refusals.{number_in}
use Rattle.refusals.proofs.Answers.{never_0}
use Rattle.refusals.proofs.Passed.{passed}
use Rattle.firmware.specs.Calls.{Judge}
use Rattle.firmware.specs.Whole.{JudgedAs}
use Rattle.firmware.proofs.Wholes.{no_room, refused_all, reported, reported-both, needs-is}
use borrow.Author.Tests.{eq-eqb, ne_eqb}
use Rattle.firmware.proofs.judge.Goals as goal

pub returns-then-out-needed : goal.returns-then-out-needed
returns-then-out-needed c = no_room _ _ _ (subst (λ (n : ℕ). length c.args.out.now < n) (needs-is _ c.needed.ensures c.edition_for-two.ensures) c.if-out-needed.true)

pub returns-in_err-whole : goal.returns-in_err-whole
returns-in_err-whole c =
    subst (λ r. Judge c.args.recording.now c.args.end c.args.out.now (number_in r) c.args.out.now) (sym (passed c.from_residual.result _ c.from_residual.ensures.1))
    (refused_all _ _ _ (subst (λ (n : ℕ). n ≤ length c.args.out.now) (needs-is _ c.needed.ensures c.edition_for-two.ensures) c.if-out-needed.false) _
    (subst (JudgedAs c.args.recording.now c.args.end) c.in_err-whole.was c.judged.ensures) (never_0 _))

pub returns-then-two : goal.returns-then-two
returns-then-two c = reported-both _ _ _ (subst (λ (n : ℕ). n ≤ length c.args.out.now) (needs-is _ c.needed.ensures c.edition_for-two.ensures) c.if-out-needed.false) _ _ _ (subst (JudgedAs c.args.recording.now c.args.end) c.in_ok-whole.was c.judged.ensures) refl _ _ (ap (λ (n : ℕ). eqb n 2) (sym c.edition_for-two.ensures) ∙ eq-eqb _ _ c.if-two.true) c.put_verdicts.ensures

pub returns : goal.returns
returns c = reported _ _ _ (subst (λ (n : ℕ). n ≤ length c.args.out.now) (needs-is _ c.needed.ensures c.edition_for-two.ensures) c.if-out-needed.false) _ _ _ (subst (JudgedAs c.args.recording.now c.args.end) c.in_ok-whole.was c.judged.ensures) refl _ _ (ap (λ (n : ℕ). eqb n 2) (sym c.edition_for-two.ensures) ∙ ne_eqb _ _ c.if-two.false) c.put_verdict.ensures
