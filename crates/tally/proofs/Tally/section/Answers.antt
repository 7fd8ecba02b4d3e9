-- The checks; then the records.
-- Assumes nothing.
use Rattle.std.proofs.Common.{ap, ◌∙◌, eq-eqb, ne_eqb, Ok}
use Rattle.tally.specs.Tally.{section_of}
use Rattle.tally.proofs.Ranging.{range_at, range_is}
use Rattle.tally.proofs.Tally.section.Goals as goal

pub returns-then-not-in_range : goal.returns-then-not-in_range
unfolding section_of
returns-then-not-in_range c = rw (range_is _ _ c.in_range.ensures ∙ c.if-not-in_range.true)

pub returns-then-bytes-ne0 : goal.returns-then-bytes-ne0
unfolding section_of
returns-then-bytes-ne0 c = rw (range_is _ _ c.in_range.ensures ∙ c.if-not-in_range.false, ne_eqb _ _ c.if-bytes-ne0.true)

pub fold-requires : goal.fold-requires
fold-requires c =
    record { range = range_at c.args.self.counts (range_is _ _ c.in_range.ensures ∙ c.if-not-in_range.false); sixes = c.if-bytes-ne0.false }

pub returns : goal.returns
unfolding section_of
returns c =
    ap Ok c.fold.ensures ∙ rw (range_is _ _ c.in_range.ensures ∙ c.if-not-in_range.false, eq-eqb _ _ c.if-bytes-ne0.false)
