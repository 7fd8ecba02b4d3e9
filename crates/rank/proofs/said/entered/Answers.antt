-- Of an entry.
-- Assumes nothing.
use Rattle.records.specs.declared.Command.TheVariants.{Pde}
use Rattle.records.proofs.Tags.{told}
use Rattle.running.specs.Down.{rule26}
use Rattle.edges.specs.Views.{kept_of}
use Rattle.rank.proofs.Filling.{eights}
use Rattle.rank.proofs.said.entered.Goals as goal

pub returns-then-eq : goal.returns-then-eq
returns-then-eq c = simp (c.rule26.ensures, c.kepts.ensures, eights (kept_of c.args.chip c.args.s.banks))

pub returns : goal.returns
unfolding rule26
returns c = rw (told c.args.c Pde c.eq.ensures c.if-eq.false)
