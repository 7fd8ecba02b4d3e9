-- What the loop has worked out before a record: the clocks that an ACT, RD or WR leaves behind.
-- Assumes nothing.
use Rattle.std.specs.Prelude.{◌+◌, ◌-◌, ◌≤◌, ◌≡◌}
use Rattle.chip.specs.declared.Chip.{Chip}
use Rattle.chip.specs.declared.Regs.{Regs}
use Rattle.chip.specs.Latencies.{al_of, cl_of, cwl_of, wr_of, h_of, b_of}
use Rattle.running.specs.declared.Asks.{Asks}
use Rattle.running.specs.Next.{need4, need10, need11}

-- by the registers in force; long and short: of a read with A12 and without
unfoldable pub asks_of : Chip → Regs → Asks
asks_of C g =
    record {
      n4 = need4 C g;
      n10 = need10 C g;
      n11 = need11 C g;
      n14 = cwl_of g + h_of g + C.twtr;
      start = al_of g + cwl_of g + h_of g + wr_of g;
      long13 = cl_of g + 2 + b_of g 4096 - cwl_of g;
      short13 = cl_of g + 2 + b_of g 0 - cwl_of g;
      long19 = al_of g + cl_of g + b_of g 4096;
      short19 = al_of g + cl_of g + b_of g 0;
    }

-- so they are, and small enough to be added to an edge
pub record Asked (C : Chip) (g : Regs) (w : Asks) : Type 0 where
  pub is : w ≡ asks_of C g
  pub n10 : w.n10 ≤ 70000255
  pub start : w.start ≤ 1020
