-- Of an entry.
-- Assumes nothing.
use Rattle.records.specs.declared.Command.TheVariants.{Pde}
use Rattle.records.proofs.Tags.{told}
use Rattle.running.specs.Down.{rule26}
use Rattle.kept.proofs.down.rule26.Goals as goal

pub returns-then-eq : goal.returns-then-eq
unfolding rule26
returns-then-eq c = rw (told c.args.c Pde c.eq.ensures c.if-eq.true) (simp (c.later_of-then-eq.ensures, c.later_of.ensures, c.spaced-set.ensures, c.needing.ensures, c.spaced-r.ensures, c.entry_read.ensures, c.all_wrote-w.ensures))

pub returns : goal.returns
unfolding rule26
returns c = rw (told c.args.c Pde c.eq.ensures c.if-eq.false)
