-- By the latency.
-- Assumes nothing.
use Rattle.std.proofs.Common.{◌∙◌, refl, arith, ne_eqb}
use Rattle.registers.specs.Allowed.{span_of}
use Rattle.registers.proofs.permit.spanned.Goals as goal

pub returns-in-5 : goal.returns-in-5
unfolding span_of
returns-in-5 c = c.between.ensures ∙ rw c.in-5.is refl

pub returns-in-6 : goal.returns-in-6
unfolding span_of
returns-in-6 c = c.between-in-6.ensures ∙ rw c.in-6.is refl

pub returns-in-7 : goal.returns-in-7
unfolding span_of
returns-in-7 c = c.between-in-7.ensures ∙ rw c.in-7.is refl

pub returns-in-8 : goal.returns-in-8
unfolding span_of
returns-in-8 c = c.between-in-8.ensures ∙ rw c.in-8.is refl

pub returns-in-9 : goal.returns-in-9
unfolding span_of
returns-in-9 c = c.between-in-9.ensures ∙ rw c.in-9.is refl

pub returns-in-10 : goal.returns-in-10
unfolding span_of
returns-in-10 c = c.between-in-10.ensures ∙ rw c.in-10.is refl

pub returns-in-11 : goal.returns-in-11
unfolding span_of
returns-in-11 c = c.between-in-11.ensures ∙ rw c.in-11.is refl

pub returns-in-12 : goal.returns-in-12
unfolding span_of
returns-in-12 c = c.between-in-12.ensures ∙ rw c.in-12.is refl

pub returns-in_default : goal.returns-in_default
unfolding span_of
returns-in_default c =
    let n = c.args.cl in
    c.between-in_default.ensures
    ∙ rw (
      ne_eqb n 5 (λ z. omega (arith, z)),
      ne_eqb n 6 (λ z. omega (arith, z)),
      ne_eqb n 7 (λ z. omega (arith, z)),
      ne_eqb n 8 (λ z. omega (arith, z)),
      ne_eqb n 9 (λ z. omega (arith, z)),
      ne_eqb n 10 (λ z. omega (arith, z)),
      ne_eqb n 11 (λ z. omega (arith, z)),
      ne_eqb n 12 (λ z. omega (arith, z)),
    )
    refl
