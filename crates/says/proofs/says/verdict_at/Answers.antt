-- No break yet, or the break.
-- Assumes nothing.
use mathlib.Core.Path.{sym, ap, ◌∙◌}
use Rattle.running.specs.Said.{verdict_at}
use Rattle.says.proofs.says.verdict_at.Goals as goal

pub returns-in-Fine : goal.returns-in-Fine
returns-in-Fine c = c.none.ensures ∙ ap (verdict_at c.args.e c.args.n) (sym c.in-Fine.is)

pub returns-in-Broken : goal.returns-in-Broken
returns-in-Broken c = c.broken_at.ensures ∙ ap (verdict_at c.args.e c.args.n) (sym c.in-Broken.is)
