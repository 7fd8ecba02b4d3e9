-- What lets no sum wrap, one test after the other; then the records.
-- Assumes nothing.
use borrow.Author.Tests.{ne_eqb, eq-eqb, lt-ltb, le-ltb}
use mathlib.Core.Path.{sym, ◌∙◌}
use Rattle.running.proofs.Ranging.{small-tested}
use Rattle.edges.proofs.Ranging.{ranged}
use Rattle.edges.specs.Ends.{taken_of}
use Rattle.rank.proofs.taking.take.Goals.{then-bytes-ne0-via-then-bytes-ne0 as no_sixes, then-bytes-ne0-via-else-bytes-ne0+then-count-gt1048576 as no_room, then-bytes-ne0-via-else-bytes-ne0+else-count-gt1048576+then-not-in_range as no_range, then-bytes-ne0-via-else-bytes-ne0+else-count-gt1048576+else-not-in_range+then-not-is_small as not_small}
use Rattle.rank.proofs.taking.take.Goals as goal

pub returns-then-bytes-ne0 : goal.returns-then-bytes-ne0
unfolding taken_of
returns-then-bytes-ne0 c = elim c.then-bytes-ne0.branch [
  | no_sixes w ↦ rw (ne_eqb _ _ w.if-bytes-ne0.true)
  | no_room w ↦ rw (eq-eqb _ _ w.if-bytes-ne0.false, lt-ltb _ _ w.if-count-gt1048576.true)
  | no_range w ↦ rw (eq-eqb _ _ w.if-bytes-ne0.false, le-ltb _ _ w.if-count-gt1048576.false, sym w.in_range.ensures ∙ w.if-not-in_range.true)
  | not_small w ↦
      rw (eq-eqb _ _ w.if-bytes-ne0.false, le-ltb _ _ w.if-count-gt1048576.false, sym w.in_range.ensures ∙ w.if-not-in_range.false, sym w.is_small.ensures ∙ w.if-not-is_small.true)
]

pub fold-requires : goal.fold-requires
fold-requires c = record {
  small = small-tested _ (sym c.is_small.ensures ∙ c.if-not-is_small.false);
  range = ranged _ (sym c.in_range.ensures ∙ c.if-not-in_range.false);
  sixes = c.if-bytes-ne0.false;
  room = c.if-count-gt1048576.false;
}

pub returns : goal.returns
unfolding taken_of
returns c =
    let range = sym c.in_range.ensures ∙ c.if-not-in_range.false in
    let small = sym c.is_small.ensures ∙ c.if-not-is_small.false in
    c.fold.ensures ∙ rw (eq-eqb _ _ c.if-bytes-ne0.false, le-ltb _ _ c.if-count-gt1048576.false, range, small)
