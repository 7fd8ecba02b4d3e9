-- What is left of the section leads where it leads, for both ranks; a part of 8,000 bytes a turn.
-- Assumes nothing.
use borrow.Author.Rules.{rules}
use native.Mathlib.Omega.{arith}
use mathlib.Core.Bool.{true, ◌||◌}
use Prim.Native.Nat.{◌+◌}
use mathlib.Core.Path.{refl, sym, ap, subst, ◌∙◌}
use lib.ListN.{take, drop}
use Rattle.edges.specs.Folded.{folded_as}
use Rattle.edges.specs.Ends.{taken_of}
use Rattle.judge.specs.Pairs.{begun, pair_as, Took}
use Rattle.judge.proofs.Pairs.{Stage, rank-is, same-zero, front, kept-long, at_most, stage-start, stage-end, part-met, stage-zero, stage-turn, first-able, second-able, took-zero, took-all}
use Rattle.judge.proofs.ranks.in_parts.Goals as goal

pub loop-at-init : goal.loop-at-init
loop-at-init c =
    let r = c.requires in
    (search rules, search rules, stage-start _ _ _ _ (first-able r), stage-start _ _ _ _ (second-able r))

pub returns-in_err-one : goal.returns-in_err-one
returns-in_err-one c =
    let l = c.loop-at in
    let e = ap (folded_as l.one) (sym c.in_err-one.was) ∙ c.take.ensures ∙ ap (taken_of _ l.one) (front c.split_part-part.ensures.2.first) in
    subst (λ r. Took c.args.chip (begun c.args.start) c.args.bytes.now (pair_as c.args.start r)) (sym c.from_residual.ensures)
    (took-zero refl (stage-zero _ _ _ _ l.one l.spare l.at l.invariant.2 _ e refl))

pub overflow_add-at : goal.overflow_add-at
overflow_add-at c = omega (arith, c.loop-at-test.true, c.requires.first.room)

pub loop-at-smaller : goal.loop-at-smaller
loop-at-smaller c = omega (arith, c.loop-at-test.true)

pub loop-at-preserved : goal.loop-at-preserved
loop-at-preserved c =
    let l = c.loop-at in
    let w = c.split_part-part.ensures.2 in
    let e = ap (folded_as l.one) (sym c.in_ok-one.was) ∙ c.take.ensures ∙ ap (taken_of _ l.one) (front w.first) in
    let f = c.take-in-loop-at.ensures ∙ ap (taken_of _ l.two) (front w.second) in
    let none = sym (part-met _ _ _ _ l.one l.spare l.at l.invariant.2 _ e) in
    let after = rank-is l.two c.take-in-loop-at.result ∙ sym c.unwrap_or-two.ensures in
    let most = at_most (drop l.at c.args.bytes.now) in (
      kept-long w.first most l.invariant.0,
      kept-long w.second most l.invariant.1,
      stage-turn _ _ _ _ l.one l.spare l.at l.invariant.2 _ e none _ w.first.spare,
      subst (λ n. Stage c.args.chip true c.args.start.two c.args.bytes.now n (l.spare || c.split_part-part.result.spare) (l.at + 8000)) after (stage-turn _ _ _ _ l.two l.spare l.at l.invariant.3 _ f (same-zero (take 8000 (drop l.at c.args.bytes.now)) ∙ none) _ w.first.spare),
    )

pub returns : goal.returns
returns c =
    let l = c.loop-at in
    let done = c.loop-at-test.false in
    let one = stage-end _ _ _ _ l.one l.spare l.at l.invariant.2 done in
    let two = stage-end _ _ _ _ l.two l.spare l.at l.invariant.3 done in
    took-all refl one.zero one.seen one.after two.after
