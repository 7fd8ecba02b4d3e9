-- The rows before are of other kinds.
-- Assumes nothing.
use mathlib.Core.Path.{sym, ap, ◌∙◌}
use Rattle.glossary.specs.declared.Row.{Row}
use Rattle.glossary.proofs.Places.{passed, whole}
use Rattle.glossary.proofs.place_of.Goals as goal

pub loop-i-init : goal.loop-i-init
loop-i-init c = whole _

pub loop-i-preserved : goal.loop-i-preserved
loop-i-preserved c =
    let l = c.loop-i in
    sym (passed l.i _ c.loop-i-test.true (λ e. c.if-row_at-kind.false (ap (λ (w : Row). w.kind) c.row_at.ensures ∙ e))) ∙ l.invariant
