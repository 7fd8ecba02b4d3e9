-- One count after the other.
-- Assumes nothing.
use native.Mathlib.Omega.{arith}
use Rattle.running.specs.Easy.{asks_of}
use Rattle.rank.proofs.clocks.asks_of.Goals as goal

pub returns : goal.returns
unfolding asks_of
returns c = record { is = simp (c.need19-2.ensures, c.need19.ensures, c.need13-2.ensures, c.need13.ensures, c.need14.ensures, c.need11.ensures, c.need10.ensures, c.need4.ensures, c.wr_of-wr.ensures.0, c.h_of-h.ensures.0, c.cwl_of-cwl.ensures.0, c.al_of-al.ensures.0); n10 = omega (arith, c.need10.ensures, c.al_of-al.ensures.0, c.al_of-al.ensures.1, c.requires.trtp); start = omega (arith, c.wr_of-wr.ensures.1, c.h_of-h.ensures.1, c.cwl_of-cwl.ensures.1, c.al_of-al.ensures.1) }
