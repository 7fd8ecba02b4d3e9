-- The refusals; then the header and the records.
-- Assumes nothing.
use Rattle.std.proofs.Common.{sym, ap, subst, ◌∙◌, arith, rules}
use Rattle.refusals.specs.Refusals.{number_in}
use Rattle.refusals.proofs.Answers.{never_0}
use Rattle.refusals.proofs.Passed.{passed}
use Rattle.moves.specs.Promises.{Widen}
use Rattle.moves.proofs.Going.{six-or-more}
use Rattle.moves.proofs.Sections.{widen-checked}
use Rattle.moves.proofs.Laying.{length-widened, move-refused, no_room, widen-left}
use Rattle.moves.proofs.widen.Goals as goal

pub returns-in_err-checked : goal.returns-in_err-checked
returns-in_err-checked c =
    let is = sym (ap number_in c.in_err-checked.was) ∙ c.checked.ensures ∙ widen-checked c.args.recording.now (search rules) in
    subst (λ r. Widen c.args.recording.now c.args.out.now (number_in r) c.args.out.now)
    (sym (passed c.from_residual.result _ c.from_residual.ensures.1)) (move-refused _ _ _ _ is (never_0 _))

pub overflow_sub-count : goal.overflow_sub-count
overflow_sub-count c = six-or-more 1 6 _ c.args.recording.now _ (c.checked.ensures ∙ widen-checked c.args.recording.now (search rules)) (ap number_in c.in_ok-checked.was)

pub returns-then-out-count : goal.returns-then-out-count
returns-then-out-count c = no_room _ _ _ (number_in c.checked.result) (c.checked.ensures ∙ widen-checked c.args.recording.now (search rules)) (ap number_in c.in_ok-checked.was) _ (length-widened _) c.if-out-count.true

pub put_header-requires : goal.put_header-requires
put_header-requires c = record { in_bounds = (six-or-more 1 6 _ c.args.recording.now _ (c.checked.ensures ∙ widen-checked c.args.recording.now (search rules)) (ap number_in c.in_ok-checked.was), omega (arith, c.if-out-count.false)); edition_bound = omega arith }

pub slice_bounds-widen_records-count : goal.slice_bounds-widen_records-count
slice_bounds-widen_records-count c = six-or-more 1 6 _ c.args.recording.now _ (c.checked.ensures ∙ widen-checked c.args.recording.now (search rules)) (ap number_in c.in_ok-checked.was)

pub slice_bounds-widen_records-start : goal.slice_bounds-widen_records-start
slice_bounds-widen_records-start c = six-or-more 1 6 _ c.args.recording.now _ (c.checked.ensures ∙ widen-checked c.args.recording.now (search rules)) (ap number_in c.in_ok-checked.was)

pub returns : goal.returns
returns c =
    widen-left c.args.recording.now c.args.out.now _ _ _ (sym (c.checked.ensures ∙ widen-checked c.args.recording.now (search rules)) ∙ (ap number_in c.in_ok-checked.was)) c.if-out-count.false c.put_header.ensures c.widen_records.ensures
