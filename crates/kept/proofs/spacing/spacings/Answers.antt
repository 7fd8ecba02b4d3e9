-- By the command.
-- Assumes nothing.
use native.Mathlib.Omega.{arith}
use mathlib.Core.Path.{sym, ap, ◌∙◌}
use Rattle.records.specs.declared.Command.{Command}
use Rattle.running.specs.Breaks.{spacings}
use Rattle.kept.proofs.spacing.spacings.Goals as goal

pub returns-in-Mrs : goal.returns-in-Mrs
unfolding spacings
returns-in-Mrs c = c.of_mrs.ensures ∙ ap (λ (x : Command). spacings c.args.chip x c.args.r c.args.e c.args.k c.args.s) (sym c.in-Mrs.is)

pub returns-in-Ref : goal.returns-in-Ref
unfolding spacings
returns-in-Ref c = grind (arith, c.in-Ref.is, c.of_ref.ensures)

pub returns-in-Pre : goal.returns-in-Pre
unfolding spacings
returns-in-Pre c = c.of_pre.ensures ∙ ap (λ (x : Command). spacings c.args.chip x c.args.r c.args.e c.args.k c.args.s) (sym c.in-Pre.is)

pub returns-in-Act : goal.returns-in-Act
unfolding spacings
returns-in-Act c = c.of_act.ensures ∙ ap (λ (x : Command). spacings c.args.chip x c.args.r c.args.e c.args.k c.args.s) (sym c.in-Act.is)

pub returns-in-Wr : goal.returns-in-Wr
unfolding spacings
returns-in-Wr c = c.of_wr.ensures ∙ ap (λ (x : Command). spacings c.args.chip x c.args.r c.args.e c.args.k c.args.s) (sym c.in-Wr.is)

pub returns-in-Rd : goal.returns-in-Rd
unfolding spacings
returns-in-Rd c = c.of_rd.ensures ∙ ap (λ (x : Command). spacings c.args.chip x c.args.r c.args.e c.args.k c.args.s) (sym c.in-Rd.is)

pub returns-in-Nop : goal.returns-in-Nop
unfolding spacings
returns-in-Nop c = grind (arith, c.in-Nop.is)

pub returns-in-Sre : goal.returns-in-Sre
unfolding spacings
returns-in-Sre c = c.of_sre.ensures ∙ ap (λ (x : Command). spacings c.args.chip x c.args.r c.args.e c.args.k c.args.s) (sym c.in-Sre.is)

pub returns-in-Srx : goal.returns-in-Srx
unfolding spacings
returns-in-Srx c = c.of_srx.ensures ∙ ap (λ (x : Command). spacings c.args.chip x c.args.r c.args.e c.args.k c.args.s) (sym c.in-Srx.is)
