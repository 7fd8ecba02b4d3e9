-- Nothing beyond the end; else what is lent from the place on.
-- Assumes nothing.
use Rattle.wide.proofs.Splitting.{holding}
use native.Mathlib.Omega.{arith}
use mathlib.Core.Path.{◌≡◌}
use lib.ListN.{length}
use Rattle.wide.proofs.Loops.{none_left, from_place}
use Rattle.wide.proofs.moved.narrow_part.Goals as goal

pub returns-then-bytes-at : goal.returns-then-bytes-at
returns-then-bytes-at c = holding (none_left _ _ _ _ c.if-bytes-at.true)

pub returns : goal.returns
returns c =
    let long : length c.args.out.now ≡ 6000 = omega (arith, c.well_formed) in
    holding (from_place c.args.bytes.now c.args.at c.args.second c.args.out.now _ _ long c.narrow_records.ensures)
