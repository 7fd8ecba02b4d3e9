-- An MRS may come where the edge is reached and its code is allowed.
-- Assumes nothing.
use Rattle.std.proofs.Common.{sym, ◌∙◌}
use Rattle.registers.proofs.Facts.{ok-allowed}
use Rattle.rank.proofs.seldom.may_set.Goals as goal

pub returns-then-out-e : goal.returns-then-out-e
returns-then-out-e c = λ h. (c.if-out-e.true, ok-allowed _ _ _ _ c.decode.ensures (sym c.is_ok.ensures.value ∙ h))
