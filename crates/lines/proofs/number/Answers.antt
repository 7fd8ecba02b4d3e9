-- A space and a number in decimal, written behind what is there.
-- Assumes nothing.
use Prim.Native.Nat.{◌≤◌}
use native.Mathlib.Omega.{arith}
use mathlib.Core.Path.{◌≡◌, ◌∙◌}
use lib.ListN.{take}
use Rattle.lines.specs.Line.{decimal_in, spaced}
use Rattle.lines.proofs.Decimal.{twenty, spelled}
use Rattle.lines.proofs.Texts.{then}
use Rattle.lines.proofs.number.Goals as goal

pub put-requires : goal.put-requires
put-requires c =
    let d = c.decimal-k in
    omega (arith, d.ensures.in_bounds.1, twenty d.result c.args.n (omega arith) d.ensures.len)

pub returns : goal.returns
unfolding spaced
returns c =
    let d = c.decimal-k in
    let few : d.result ≤ 20 = twenty d.result c.args.n (omega arith) d.ensures.len in
    let text : take d.result d.new.out ≡ decimal_in 20 c.args.n =
    d.ensures.digits ∙ spelled 20 d.result _ few d.ensures.len in
    record { upper_bound = omega (arith, d.ensures.in_bounds.1, few); put = then c.put-start.ensures (rw text at c.put.ensures) (omega arith) }
