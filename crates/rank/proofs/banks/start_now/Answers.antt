-- By the command.
-- Assumes nothing.
use Rattle.records.specs.declared.Command.TheVariants.{Pre, Rd}
use Rattle.records.proofs.Tags.{told}
use Rattle.running.specs.Next.{start_now}
use Rattle.rank.proofs.banks.start_now.Goals as goal

pub returns-then-eq-clause-value : goal.returns-then-eq-clause-value
unfolding start_now
returns-then-eq-clause-value c = rw (told c.args.c Pre c.eq.ensures c.if-eq.true)

pub returns-then-eq-2-clause-value : goal.returns-then-eq-2-clause-value
unfolding start_now
returns-then-eq-2-clause-value c =
    rw (c.max.ensures, c.al_of-al.ensures.0, told c.args.c Pre c.eq.ensures c.if-eq.false, told c.args.c Rd c.eq-2.ensures c.if-eq-2.true)

pub returns-clause-value : goal.returns-clause-value
unfolding start_now
returns-clause-value c =
    rw (
      c.wr_of.ensures.0,
      c.h_of.ensures.0,
      c.cwl_of.ensures.0,
      c.al_of-al.ensures.0,
      told c.args.c Pre c.eq.ensures c.if-eq.false,
      told c.args.c Rd c.eq-2.ensures c.if-eq-2.false,
    )
