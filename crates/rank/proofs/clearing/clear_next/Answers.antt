-- By the command.
-- Assumes nothing.
use mathlib.Core.Logic.{⊎_elim}
use mathlib.Core.Path.{◌≡◌}
use Rattle.records.specs.declared.Command.TheVariants.{Ref, Pre, Srx, Pde}
use Rattle.edges.specs.Clearing.{clear_next}
use Rattle.rank.proofs.Commands.{is-other}
use Rattle.rank.proofs.clearing.clear_next.Goals as goal

pub returns-in-Ref : goal.returns-in-Ref
unfolding clear_next
returns-in-Ref c = ⊎_elim (λ (h : c.args.c ≡ Ref). rw h c.owing_of.ensures) (λ (h : c.args.c ≡ Pre). rw h c.owing_of.ensures) c.in-Ref.is

pub returns-in-Srx : goal.returns-in-Srx
unfolding clear_next
returns-in-Srx c = rw c.in-Srx.is c.owing_of-in-Srx.ensures

pub returns-in-Pde : goal.returns-in-Pde
unfolding clear_next
returns-in-Pde c = rw c.in-Pde.is c.min.ensures

pub returns-in_default : goal.returns-in_default
unfolding clear_next
returns-in_default c =
    let n = c.in_default in
    rw (is-other Ref _ n.not-Ref, is-other Pre _ n.not-Pre, is-other Srx _ n.not-Srx, is-other Pde _ n.not-Pde)
