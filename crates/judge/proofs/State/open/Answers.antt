-- By the edition that is asked for, and the header's answer.
-- Assumes nothing.
use Prim.Native.Nat.{ℕ}
use mathlib.Core.List.{List}
use mathlib.Core.Path.{◌≡◌, sym, ap, subst, ◌∙◌}
use Rattle.refusals.proofs.Passed.{passed}
use Rattle.header.specs.Bytes.{Parsed, edition_for, parsed_of}
use Rattle.judge.specs.declared.State.{State}
use Rattle.judge.specs.Answers.{OpenAnswer, opened_as}
use Rattle.judge.specs.Promises.{Open}
use Rattle.judge.specs.Calls.{open_of, opened_by}
use Rattle.judge.proofs.State.open.Goals as goal

abbrev made : ℕ → State → OpenAnswer
made n s = record { refused = n; state = s }

opened-as : (e : ℕ) (bytes : List ℕ) (p : Parsed) → p ≡ parsed_of e bytes → e ≡ edition_for bytes → opened_by e p ≡ open_of bytes
unfolding open_of
opened-as e bytes p is asked = ap (opened_by e) is ∙ (λ i. opened_by (asked i) (parsed_of (asked i) bytes))

pub returns-in_err-h : goal.returns-in_err-h
returns-in_err-h c =
    subst (λ r. Open c.args.header.now (opened_as r)) (sym (passed c.from_residual.result _ c.from_residual.ensures.1))
    (ap (opened_by c.edition_for-edition.result) (sym c.in_err-h.was) ∙ opened-as _ _ _ c.parse.ensures c.edition_for-edition.ensures)

pub returns : goal.returns
returns c = ap (made 0) c.start.ensures ∙ ap (opened_by _) (sym c.in_ok-h.was) ∙ opened-as _ _ _ c.parse.ensures c.edition_for-edition.ensures
