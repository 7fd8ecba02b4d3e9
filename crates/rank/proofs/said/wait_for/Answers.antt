-- By the command.
-- Assumes nothing.
use native.Mathlib.Omega.{arith}
use mathlib.Core.Path.{sym, ap, ◌∙◌}
use Rattle.records.specs.declared.Command.{Command}
use Rattle.edges.specs.Asks.{wait_for}
use Rattle.rank.proofs.said.wait_for.Goals as goal

pub returns-in-Mrs : goal.returns-in-Mrs
returns-in-Mrs c = let a = c.args in ap (λ (x : Command). wait_for a.w x a.r) (sym c.in-Mrs.is)

pub returns-in-Ref : goal.returns-in-Ref
returns-in-Ref c = let a = c.args in ap (λ (x : Command). wait_for a.w x a.r) (sym c.in-Ref.is)

pub returns-in-Pre : goal.returns-in-Pre
returns-in-Pre c =
    let a = c.args in
    c.either.ensures ∙ rw c.greatest.ensures (ap (λ (x : Command). wait_for a.w x a.r) (sym c.in-Pre.is))

pub returns-in-Act : goal.returns-in-Act
returns-in-Act c = let a = c.args in ap (λ (x : Command). wait_for a.w x a.r) (sym c.in-Act.is)

pub returns-in-Wr : goal.returns-in-Wr
returns-in-Wr c = let a = c.args in ap (λ (x : Command). wait_for a.w x a.r) (sym c.in-Wr.is)

pub returns-in-Rd : goal.returns-in-Rd
returns-in-Rd c = let a = c.args in ap (λ (x : Command). wait_for a.w x a.r) (sym c.in-Rd.is)

pub returns-in-Zq : goal.returns-in-Zq
returns-in-Zq c = let a = c.args in ap (λ (x : Command). wait_for a.w x a.r) (sym c.in-Zq.is)

pub returns-in-Nop : goal.returns-in-Nop
returns-in-Nop c = grind (arith, c.in-Nop.is)

pub returns-in-Sre : goal.returns-in-Sre
returns-in-Sre c = let a = c.args in ap (λ (x : Command). wait_for a.w x a.r) (sym c.in-Sre.is)
