-- `answers::put_verdict` meets its contract, by what `copy` ensures.
-- Assumes nothing.
use Rattle.answers.proofs.Answers.{too_short, reported}
use Rattle.answers.proofs.report.put_verdict.Goals as goal

pub returns-then-out-lt20 : goal.returns-then-out-lt20
returns-then-out-lt20 c = too_short _ _ c.if-out-lt20.true

pub returns : goal.returns
returns c = reported _ _ _ _ c.if-out-lt20.false c.verdict_bytes-twenty.ensures c.copy.ensures
