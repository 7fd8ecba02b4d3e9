-- Its marks.
-- Assumes nothing.
use Rattle.edges.specs.Views.{rests_of}
use Rattle.rank.proofs.views.rests_of.Goals as goal

pub returns : goal.returns
unfolding rests_of
returns c = simp (c.device_mark-9.ensures, c.device_mark-8.ensures, c.device_mark-7.ensures, c.device_mark-6.ensures, c.device_mark-5.ensures, c.reset_of.ensures, c.device_mark-4.ensures, c.device_mark-3.ensures, c.device_mark-2.ensures, c.device_mark.ensures)
