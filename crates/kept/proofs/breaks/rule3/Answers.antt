-- By the command.
-- Assumes nothing.
use Rattle.records.specs.declared.Command.TheVariants.{Mrs, Act, Rd}
use Rattle.records.proofs.Tags.{told}
use Rattle.running.specs.Breaks.{rule3}
use Rattle.kept.proofs.breaks.rule3.Goals as goal

pub returns-then-eq : goal.returns-then-eq
unfolding rule3
returns-then-eq c = simp (c.mrs_allowed.ensures, told c.args.c Mrs c.eq.ensures c.if-eq.true)

pub returns-then-eq-2 : goal.returns-then-eq-2
unfolding rule3
returns-then-eq-2 c =
    simp (c.three_if.ensures, told c.args.c Mrs c.eq.ensures c.if-eq.false, told c.args.c Act c.eq-2.ensures c.if-eq-2.true)

pub returns-then-eq-3 : goal.returns-then-eq-3
unfolding rule3
returns-then-eq-3 c =
    simp (
      c.three_if-then-eq-3.ensures,
      told c.args.c Mrs c.eq.ensures c.if-eq.false,
      told c.args.c Act c.eq-2.ensures c.if-eq-2.false,
      told c.args.c Rd c.eq-3.ensures c.if-eq-3.true,
    )

pub returns : goal.returns
unfolding rule3
returns c =
    simp (
      told c.args.c Mrs c.eq.ensures c.if-eq.false,
      told c.args.c Act c.eq-2.ensures c.if-eq-2.false,
      told c.args.c Rd c.eq-3.ensures c.if-eq-3.false,
    )
