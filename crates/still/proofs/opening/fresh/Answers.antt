-- No record yet.
-- Assumes nothing.
use mathlib.Core.Bool.{false}
use Rattle.edges.specs.Ends.{fresh_rank}
use Rattle.still.proofs.opening.fresh.Goals as goal

pub returns : goal.returns
unfolding fresh_rank
returns c =
    λ i. record {
      edge = 0;
      count = 0;
      first = c.none.ensures i;
      level = c.args.level;
      debt = record { sleeps = false; due = c.args.due; gap = c.args.gap };
      banks = c.fresh_banks.ensures i;
      waits = c.fresh_waits.ensures i;
      acts = c.fresh_acts.ensures i;
      device = c.fresh_device.ensures i;
    }
