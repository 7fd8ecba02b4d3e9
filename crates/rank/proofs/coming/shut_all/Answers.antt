-- All eight, or as they were.
-- Assumes nothing.
use Rattle.edges.proofs.Lists.{replicate-table}
use Rattle.rank.proofs.coming.shut_all.Goals as goal

pub returns-in-Pre : goal.returns-in-Pre
returns-in-Pre c = rw c.in-Pre.is (λ i. record c.args.banks.now { shutat = replicate-table c.args.e i; shutno = replicate-table c.args.n i })
