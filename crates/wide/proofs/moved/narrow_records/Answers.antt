-- A row of records a turn.
-- Assumes nothing.
use Prim.Native.Nat.{◌+◌, ◌*◌, ◌≤◌}
use native.Mathlib.Omega.{arith}
use lib.ListN.{length}
use borrow.Author.Rules.{rules}
use Rattle.wide.proofs.Loops.{narrow_start, narrow-length, narrow-end}
use Rattle.wide.proofs.Rows.{row_laid, either-long, either-seen}
use Rattle.wide.proofs.moved.narrow_records.Goals as goal

pub loop-i-init : goal.loop-i-init
loop-i-init c = (omega arith, search rules, search rules, narrow_start _ _ _)

pub overflow_mul-i : goal.overflow_mul-i
overflow_mul-i c = omega (arith, c.loop-i.invariant.0, c.min-count.ensures)

pub look-seen-requires : goal.look-seen-requires
look-seen-requires c =
    let l = c.loop-i in
    let row = c.min-n.ensures in
    record { n_bound = omega (arith, row); n_in_bounds = omega (arith, row, c.min-count.ensures, l.invariant.0); one_len = (l.invariant.1, l.invariant.2) }

pub overflow_mul-i-in-loop-i : goal.overflow_mul-i-in-loop-i
overflow_mul-i-in-loop-i c = omega (arith, c.loop-i.invariant.0, c.min-count.ensures)

pub lay_either-requires : goal.lay_either-requires
lay_either-requires c =
    let l = c.loop-i in
    let few = c.min-count.ensures in
    let row = c.min-n.ensures in
    let long = narrow-length _ _ _ l.out l.spare l.i l.invariant.3 (omega (arith, few, l.invariant.0)) (omega (arith, few, l.invariant.0)) in
    record { one_len = c.look-seen.ensures.long; n_bound = (omega (arith, row), omega (arith, row, few, l.invariant.0, long)) }

pub overflow_add-i : goal.overflow_add-i
overflow_add-i c = omega (arith, c.min-n.ensures, c.loop-i.invariant.0, c.min-count.ensures)

pub loop-i-smaller : goal.loop-i-smaller
loop-i-smaller c = omega (arith, c.min-n.ensures, c.loop-i-test.true)

pub loop-i-preserved : goal.loop-i-preserved
loop-i-preserved c =
    let l = c.loop-i in
    let few = c.min-count.ensures in
    let row = c.min-n.ensures in
    let seen = c.look-seen.ensures in
    let second = c.args.second in
    let there : 8 * l.i + 8 * c.min-n.result ≤ length c.args.bytes.now = omega (arith, row, few, l.invariant.0) in (
      omega (arith, row, c.loop-i-test.true),
      seen.long.0,
      seen.long.1,
      row_laid l.invariant.3 seen there _ (omega (arith, either-long seen second, row)) (either-seen seen second) c.lay_either.ensures,
    )

pub overflow_mul-result : goal.overflow_mul-result
overflow_mul-result c = omega (arith, c.min-count.ensures)

pub shape_of-out : goal.shape_of-out
shape_of-out c =
    let l = c.loop-i in
    let few = c.min-count.ensures in
    narrow-length _ _ _ l.out l.spare l.i l.invariant.3 (omega (arith, few, l.invariant.0)) (omega (arith, few, l.invariant.0))

pub returns : goal.returns
returns c =
    let l = c.loop-i in
    let few = c.min-count.ensures in
    narrow-end _ _ _ l.out l.spare l.i l.invariant.3 (omega (arith, few, l.invariant.0, c.loop-i-test.false)) _ (omega (arith, l.invariant.0, c.loop-i-test.false))
