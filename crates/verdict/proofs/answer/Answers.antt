-- `verdict::answer` hands over the lines of some input.
-- Assumes nothing.
use Rattle.verdict.proofs.Reading.{told-by, told-second-by}
use Rattle.verdict.proofs.answer.Goals as goal

pub print-requires : goal.print-requires
print-requires c = told-by _ c.requires _ _ _ c.line-n.ensures.1

pub print_second-requires : goal.print_second-requires
print_second-requires c = told-second-by _ c.requires _ _ _ c.second_line-m.ensures.1
