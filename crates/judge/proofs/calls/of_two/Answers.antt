-- Checks 5, 7, 6, 14; then the records of both ranks.
-- Assumes nothing.
use mathlib.Core.Path.{refl, sym, ap, ◌∙◌}
use mathlib.Core.Bool.{false}
use Rattle.judge.specs.declared.State.{State}
use Rattle.judge.specs.declared.Pair.{Pair as Handed}
use Rattle.judge.specs.Pairs.{pair_as}
use Rattle.judge.specs.Calls.{holding, take}
use Rattle.judge.proofs.Sections.{two-five, two-seven, two_ready, two-six, two-fourteen, two-taken, took-as, ready-as}
use Rattle.judge.proofs.calls.of_two.Goals as goal

-- what the ranks begin with
abbrev begins : State → Handed
begins s = record { spare = false; one = s.one; two = s.two }

pub returns-then-bytes-ne0 : goal.returns-then-bytes-ne0
returns-then-bytes-ne0 c = two-five _ c.requires.s_value c.requires.edition_value _ c.if-bytes-ne0.true

pub returns-then-s-bytes-gt-LIMIT : goal.returns-then-s-bytes-gt-LIMIT
returns-then-s-bytes-gt-LIMIT c = two-seven _ c.requires.s_value c.requires.edition_value _ c.if-bytes-ne0.false c.if-s-bytes-gt-LIMIT.true

pub both-requires : goal.both-requires
both-requires c = ready-as c.chip_of.ensures refl (two_ready _ c.requires.s_value c.requires.edition_value _ c.if-bytes-ne0.false c.if-s-bytes-gt-LIMIT.false)

pub returns-in-None : goal.returns-in-None
returns-in-None c =
    two-six _ c.requires.s_value c.requires.edition_value _ c.if-bytes-ne0.false c.if-s-bytes-gt-LIMIT.false _ (took-as c.chip_of.ensures refl c.both.ensures)
    (ap (λ r. (pair_as (begins c.args.s) r).zero) c.in-None.is)

pub returns-in-Some : goal.returns-in-Some
returns-in-Some c =
    two-fourteen _ c.requires.s_value c.requires.edition_value _ c.if-bytes-ne0.false c.if-s-bytes-gt-LIMIT.false _ (took-as c.chip_of.ensures refl c.both.ensures)
    (ap (λ r. (pair_as (begins c.args.s) r).zero) c.in-Some.is) (ap (λ r. (pair_as (begins c.args.s) r).spare) c.in-Some.is ∙ c.if-p.true)

pub returns-in-Some-2 : goal.returns-in-Some-2
returns-in-Some-2 c =
    let p = c.args.s in
    c.taken.ensures ∙ ap take c.holding.ensures
    ∙ ap (λ r. take (holding p.header p.edition (pair_as (begins p) r).one (pair_as (begins p) r).two)) (sym c.in-Some.is)
    ∙ two-taken _ c.requires.s_value c.requires.edition_value _ c.if-bytes-ne0.false c.if-s-bytes-gt-LIMIT.false _ (took-as c.chip_of.ensures refl c.both.ensures)
    (ap (λ r. (pair_as (begins p) r).zero) c.in-Some.is) (ap (λ r. (pair_as (begins p) r).spare) c.in-Some.is ∙ c.if-p.false)
