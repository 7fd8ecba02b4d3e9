-- Its parts.
-- Assumes nothing.
use Rattle.edges.specs.Views.{shared_of}
use Rattle.rank.proofs.views.shared_of.Goals as goal

pub returns : goal.returns
unfolding shared_of
returns c = simp (c.shut_of.ensures, c.device_mark.ensures, c.wrote_of.ensures, c.read_of.ensures, c.written_of.ensures, c.regs_of.ensures, c.rests_of.ensures, c.act_back-4.ensures, c.act_back-3.ensures, c.act_back-2.ensures, c.act_back.ensures)
