-- The state and its verdicts so far.
-- Assumes nothing.
use Rattle.judge.proofs.calls.taken.Goals as goal

pub returns : goal.returns
returns c = λ i. record { refused = 0; state = c.args.s; verdict = c.so_far.ensures i; second = c.second_verdict.ensures i }
