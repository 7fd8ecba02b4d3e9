-- The word of the bytes the other way round.
-- Assumes nothing.
use Rattle.std.proofs.Common.{◌+◌, ◌≡◌, get_or, arith}
use Rattle.wide.specs.Wide.{word64}
use Rattle.wide.proofs.Turning.{turned-word}
use Rattle.wide.proofs.low.low_word.Goals as goal

pub returns : goal.returns
unfolding word64
returns c =
    let bs = c.args.bytes.now in
    let at = c.args.at in
    let low = c.type_inv.bytes in
    let is : c.from_le_bytes.result
    ≡ word64 (get_or bs (at + 7) 0) (get_or bs (at + 6) 0) (get_or bs (at + 5) 0) (get_or bs (at + 4) 0) (get_or bs (at + 3) 0) (get_or bs (at + 2) 0) (get_or bs (at + 1) 0) (get_or bs at 0) =
    omega (arith, c.from_le_bytes.ensures) in
    rw is (turned-word (get_or bs at 0) (get_or bs (at + 1) 0) (get_or bs (at + 2) 0) (get_or bs (at + 3) 0) (get_or bs (at + 4) 0) (get_or bs (at + 5) 0) (get_or bs (at + 6) 0) (get_or bs (at + 7) 0)
    (omega (arith, low at)) (omega (arith, low (at + 1))) (omega (arith, low (at + 2))) (omega (arith, low (at + 3))) (omega (arith, low (at + 4))) (omega (arith, low (at + 5))) (omega (arith, low (at + 6))) (omega (arith, low (at + 7))))
