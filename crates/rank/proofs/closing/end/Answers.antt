-- What lets no sum wrap, one test after the other; then the end.
-- Assumes nothing.
use borrow.Author.Tests.{ltb-false}
use lib.Dec.{ltb}
use mathlib.Core.Path.{sym, ◌∙◌}
use Rattle.laws.proofs.Both.{neither}
use Rattle.running.proofs.Ranging.{small-tested}
use Rattle.edges.proofs.Ranging.{ranged}
use Rattle.edges.specs.Ends.{ended_of}
use Rattle.rank.proofs.closing.end.Goals as goal

pub returns-then-not-is_small : goal.returns-then-not-is_small
unfolding ended_of
returns-then-not-is_small c = c.no_end.ensures ∙ rw (sym c.is_small.ensures ∙ c.if-not-is_small.true)

pub returns-then-not-in_range : goal.returns-then-not-in_range
unfolding ended_of
returns-then-not-in_range c =
    let small = sym c.is_small.ensures ∙ c.if-not-is_small.false in
    c.no_end-then-not-in_range.ensures ∙ rw (small, sym c.in_range.ensures ∙ c.if-not-in_range.true)

pub returns-then-at-s : goal.returns-then-at-s
unfolding ended_of
returns-then-at-s c =
    let small = sym c.is_small.ensures ∙ c.if-not-is_small.false in
    let range = sym c.in_range.ensures ∙ c.if-not-in_range.false in
    c.no_end-then-at-s.ensures ∙ rw (small, range, c.if-at-s.true)

pub closed-requires : goal.closed-requires
closed-requires c =
    let a = c.args in
    let small = sym c.is_small.ensures ∙ c.if-not-is_small.false in
    let range = sym c.in_range.ensures ∙ c.if-not-in_range.false in
    let near = (neither (ltb a.at a.s.edge) (ltb 17592186044416 a.at) c.if-at-s.false).1 in
    record { small = small-tested _ small; ranged = ranged _ range; end_le_last_edge = ltb-false _ _ near }

pub returns : goal.returns
unfolding ended_of
returns c =
    let small = sym c.is_small.ensures ∙ c.if-not-is_small.false in
    let range = sym c.in_range.ensures ∙ c.if-not-in_range.false in
    c.closed.ensures ∙ rw (small, range, c.if-at-s.false)
