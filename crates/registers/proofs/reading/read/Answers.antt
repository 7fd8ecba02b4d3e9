-- Check 9, the header's, then the code's.
-- Assumes nothing.
use Rattle.std.proofs.Common.{refl, sym, subst}
use mathlib.Core.Path.{◌∙◌}
use Rattle.refusals.specs.Refusals.{number_in}
use Rattle.refusals.proofs.Passed.{passed}
use Rattle.registers.specs.Promises.{Read}
use Rattle.registers.proofs.Answers.{ok-six, short, refused, taken, puts-values, puts-bit}
use Rattle.registers.proofs.reading.read.Goals as goal

pub returns-then-out-lt6 : goal.returns-then-out-lt6
returns-then-out-lt6 c = short _ _ _ _ c.if-out-lt6.true

pub returns-in_err-h : goal.returns-in_err-h
returns-in_err-h c =
    subst (λ r. Read c.args.header.now c.args.number c.args.code c.args.out.now (number_in r) c.args.out.now)
    (sym (passed c.from_residual.result _ c.from_residual.ensures.1))
    (refused _ _ _ _ c.if-out-lt6.false _ _ c.parse.ensures c.in_err-h.was)

pub returns-in_err-six : goal.returns-in_err-six
returns-in_err-six c =
    subst (λ r. Read c.args.header.now c.args.number c.args.code c.args.out.now (number_in r) c.args.out.now)
    (sym (passed c.from_residual-in_err-six.result _ c.from_residual-in_err-six.ensures.1))
    (taken _ _ _ _ c.if-out-lt6.false _ _ _ c.parse.ensures c.in_ok-h.was c.decode.ensures (puts-bit _ _ _ c.in_err-six.was))

pub returns : goal.returns
returns c =
    taken _ _ _ _ c.if-out-lt6.false _ _ _ c.parse.ensures c.in_ok-h.was c.decode.ensures
    (puts-values _ _ _ _ (ok-six _ _ _ _ (sym c.in_ok-six.was ∙ c.decode.ensures)) c.in_ok-six.was (rw (c.copy_from_slice.ensures.after) refl))
