-- What is left of the section leads where it leads; a part of 8,000 bytes a turn.
-- Assumes nothing.
use borrow.Author.Rules.{rules}
use native.Mathlib.Omega.{arith}
use mathlib.Core.Bool.{true≢false}
use mathlib.Core.Path.{refl, sym, ap, subst, ◌∙◌}
use lib.ListN.{drop}
use Rattle.edges.specs.Folded.{folded_as}
use Rattle.edges.specs.Ends.{taken_of}
use Rattle.judge.specs.Pairs.{Alone, single_as}
use Rattle.judge.proofs.Pairs.{front, kept-long, at_most, stage-start, stage-end, part-met, stage-zero, stage-turn}
use Rattle.judge.proofs.ranks.alone.Goals as goal

pub loop-at-init : goal.loop-at-init
loop-at-init c = (search rules, stage-start _ _ _ _ c.requires)

pub returns-in_err-m : goal.returns-in_err-m
returns-in_err-m c =
    let l = c.loop-at in
    let is = ap (folded_as l.m) (sym c.in_err-m.was) ∙ c.take.ensures ∙ ap (taken_of _ l.m) (front c.narrow_part-part.ensures.1) in
    let met = stage-zero _ _ _ _ l.m l.spare l.at l.invariant.1 _ is refl in
    subst (λ r. Alone c.args.chip c.args.second c.args.n c.args.bytes.now (single_as c.args.n r)) (sym c.from_residual.ensures)
    (record { zero = sym met; seen = λ no. absurd (true≢false no); after = λ no. absurd (true≢false no) })

pub overflow_add-at : goal.overflow_add-at
overflow_add-at c = omega (arith, c.loop-at-test.true, c.requires.fit.room)

pub loop-at-smaller : goal.loop-at-smaller
loop-at-smaller c = omega (arith, c.loop-at-test.true)

pub loop-at-preserved : goal.loop-at-preserved
loop-at-preserved c =
    let l = c.loop-at in
    let w = c.narrow_part-part.ensures.1 in
    let e = ap (folded_as l.m) (sym c.in_ok-m.was) ∙ c.take.ensures ∙ ap (taken_of _ l.m) (front w) in
    let none = sym (part-met _ _ _ _ l.m l.spare l.at l.invariant.1 _ e) in (
      kept-long w (at_most (drop l.at c.args.bytes.now)) l.invariant.0,
      stage-turn _ _ _ _ l.m l.spare l.at l.invariant.1 _ e none _ w.spare,
    )

pub returns : goal.returns
returns c =
    let l = c.loop-at in
    let e = stage-end _ _ _ _ l.m l.spare l.at l.invariant.1 c.loop-at-test.false in
    record { zero = sym e.zero; seen = λ _. e.seen; after = λ _. e.after }
