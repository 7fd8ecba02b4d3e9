-- A record a turn.
-- Assumes nothing.
use Prim.Native.Nat.{ℕ}
use native.Mathlib.Omega.{arith}
use mathlib.Core.Path.{subst}
use lib.ListN.{drop}
use Rattle.wide.specs.Low.{Looked}
use Rattle.wide.proofs.Rows.{look-start, look-turn}
use Rattle.wide.proofs.low.look.Goals as goal

pub loop-i-init : goal.loop-i-init
loop-i-init c = (omega arith, look-start _ _ _ c.requires.one_len.0 c.requires.one_len.1)

pub overflow_mul-i : goal.overflow_mul-i
overflow_mul-i c = omega (arith, c.loop-i.auto.i-end, c.requires.n_bound)

pub overflow_add-at : goal.overflow_add-at
overflow_add-at c = omega (arith, c.loop-i-test.true, c.requires.n_in_bounds, c.well_formed)

pub low_word-x-requires : goal.low_word-x-requires
low_word-x-requires c = omega (arith, c.loop-i-test.true, c.requires.n_in_bounds)

pub offset_bounds-one-i : goal.offset_bounds-one-i
offset_bounds-one-i c = omega (arith, c.loop-i.auto.i-end, c.requires.n_bound)

pub bounds-one-i : goal.bounds-one-i
bounds-one-i c = omega (arith, c.loop-i-test.true, c.requires.n_bound)

pub offset_bounds-two-i : goal.offset_bounds-two-i
offset_bounds-two-i c = omega (arith, c.loop-i.auto.i-end, c.requires.n_bound)

pub bounds-two-i : goal.bounds-two-i
bounds-two-i c = omega (arith, c.loop-i-test.true, c.requires.n_bound)

pub overflow_add-spare : goal.overflow_add-spare
overflow_add-spare c =
    let l = c.loop-i in
    omega (arith, l.auto.i-end, l.invariant.0, c.requires.n_bound, c.low_word-x.ensures.few, c.spare_bits-spare.ensures)

pub loop-i-preserved : goal.loop-i-preserved
loop-i-preserved c =
    let l = c.loop-i in
    let taken = c.loop-i-test.true in
    let t = c.low_word-x.ensures in (
      omega (arith, l.invariant.0, t.few, c.spare_bits-spare.ensures),
      look-turn c.args.bytes.now c.args.at l.i l.one l.two l.spare l.invariant.1 (omega (arith, taken, c.requires.n_in_bounds)) (omega (arith, taken, c.requires.n_bound)) _ _ _ _ t c.first_seen.ensures c.second_seen.ensures c.spare_bits-spare.ensures,
    )

pub returns : goal.returns
returns c =
    let p = c.args in
    let l = c.loop-i in
    subst (λ (i : ℕ). Looked (drop p.at p.bytes.now) i l.one l.two l.spare) (omega (arith, l.auto.i-end, c.loop-i-test.false)) l.invariant.1
