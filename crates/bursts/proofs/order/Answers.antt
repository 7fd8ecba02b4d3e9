-- `bursts::order` meets its contract, one law a way through the code.
-- Assumes nothing.
use mathlib.Core.Path.{refl, ap}
use lib.ListN.{length, take, length-take}
use Rattle.bursts.specs.Burst.{gives10}
use Rattle.bursts.proofs.Answers.{start-above-7, length-unknown, put-words}
use native.Mathlib.Omega.{arith}
use Rattle.bursts.proofs.order.Goals as goal

pub returns-then-start-gt7 : goal.returns-then-start-gt7
returns-then-start-gt7 c = start-above-7 _ _ _ _ _ (omega arith)

pub slice_bounds-put-end-in-4 : goal.slice_bounds-put-end-in-4
slice_bounds-put-end-in-4 c = let called = c.words-words in
    omega (arith, length-take 4 called.result, ap length called.ensures)

pub returns-in-8 : goal.returns-in-8
unfolding gives10
returns-in-8 c =
    put-words _ _ _ _ _ 8 c.in-8.is refl (omega arith) c.words-words.ensures c.put.ensures

pub returns-in-4 : goal.returns-in-4
unfolding gives10
returns-in-4 c =
    put-words _ _ _ _ _ 4 c.in-4.is refl (omega arith) (ap (take 4) c.words-words.ensures) c.put-in-4.ensures

pub returns-in_default : goal.returns-in_default
returns-in_default c = length-unknown _ _ _ _ _ c.in_default.in_default-own.rest.0.1 c.in_default.in_default-own.rest.1
