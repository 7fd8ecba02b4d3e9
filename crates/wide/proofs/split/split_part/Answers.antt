-- Nothing beyond the end; else what is lent from the place on.
-- Assumes nothing.
use Rattle.wide.proofs.Splitting.{splits, splits-none}
use Rattle.wide.proofs.split.split_part.Goals as goal

pub returns-then-bytes-at : goal.returns-then-bytes-at
returns-then-bytes-at c = splits-none _ _ _ _ c.if-bytes-at.true

pub returns : goal.returns
returns c = splits c.args.bytes.now c.args.at c.split_records.ensures
