-- Checks 5, 7, 6; then the records.
-- Assumes nothing.
use mathlib.Core.Path.{refl, sym, ap, ◌∙◌}
use Rattle.chip.specs.declared.Chip.{Chip}
use Rattle.edges.specs.Folded.{folded_as}
use Rattle.edges.specs.Ends.{taken_of}
use Rattle.judge.specs.Calls.{take}
use Rattle.judge.proofs.Sections.{one-five, one-seven, one-six, one-taken}
use Rattle.judge.proofs.calls.of_one.Goals as goal

pub returns-then-bytes-ne0 : goal.returns-then-bytes-ne0
returns-then-bytes-ne0 c = one-five _ c.requires.s_value c.requires.edition_value _ c.if-bytes-ne0.true

pub returns-then-s-bytes-gt-LIMIT : goal.returns-then-s-bytes-gt-LIMIT
returns-then-s-bytes-gt-LIMIT c = one-seven _ c.requires.s_value c.requires.edition_value _ c.if-bytes-ne0.false c.if-s-bytes-gt-LIMIT.true

pub returns-in-None : goal.returns-in-None
returns-in-None c =
    one-six _ c.requires.s_value c.requires.edition_value _ c.if-bytes-ne0.false c.if-s-bytes-gt-LIMIT.false _
    (ap (folded_as c.args.s.one) (sym c.in-None.is) ∙ c.take.ensures ∙ ap (λ (C : Chip). taken_of C c.args.s.one c.args.bytes.now) c.chip_of.ensures) refl

pub returns-in-Some : goal.returns-in-Some
returns-in-Some c =
    c.taken.ensures ∙ ap take c.holding.ensures
    ∙ one-taken _ c.requires.s_value c.requires.edition_value _ c.if-bytes-ne0.false c.if-s-bytes-gt-LIMIT.false _
    (ap (folded_as c.args.s.one) (sym c.in-Some.is) ∙ c.take.ensures ∙ ap (λ (C : Chip). taken_of C c.args.s.one c.args.bytes.now) c.chip_of.ensures) refl
