-- `answers::put_verdicts` meets its contract, by what `copy` ensures, twice.
-- Assumes nothing.
use Rattle.answers.proofs.Answers.{both-too-short, both-reported}
use Rattle.answers.proofs.report.put_verdicts.Goals as goal

pub returns-then-out-lt40 : goal.returns-then-out-lt40
returns-then-out-lt40 c = both-too-short _ _ _ c.if-out-lt40.true

pub returns : goal.returns
returns c = both-reported _ _ _ _ _ _ c.if-out-lt40.false c.verdict_bytes-one.ensures c.verdict_bytes-two.ensures c.copy.ensures c.copy-2.ensures
