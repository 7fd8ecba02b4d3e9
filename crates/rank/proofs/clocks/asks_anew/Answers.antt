-- The registers as they are, or w.
-- Assumes nothing.
use mathlib.Core.Bool.{true≢false}
use mathlib.Core.Path.{refl, sym, ◌∙◌}
use Rattle.edges.proofs.Lane.{by-the-codes}
use Rattle.rank.proofs.clocks.asks_anew.Goals as goal

pub returns-then-yes : goal.returns-then-yes
returns-then-yes c =
    record { asked = λ _. by-the-codes c.asks_of.ensures c.regs_of.ensures; value = λ z. absurd (true≢false (sym c.if-yes.true ∙ z)) }

pub returns : goal.returns
returns c = record { asked = λ z. absurd (true≢false (sym z ∙ c.if-yes.false)); value = λ _. refl }
