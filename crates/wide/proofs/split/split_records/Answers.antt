-- A row of records a turn, for both ranks.
-- Assumes nothing.
use Prim.Native.Nat.{◌+◌, ◌*◌, ◌≤◌}
use native.Mathlib.Omega.{arith}
use mathlib.Core.Bool.{true, false}
use lib.ListN.{length}
use borrow.Author.Rules.{rules}
use Rattle.wide.proofs.Loops.{narrow_start, narrow-length, narrow-end}
use Rattle.wide.proofs.Rows.{row_laid}
use Rattle.wide.proofs.Splitting.{thousand}
use Rattle.wide.proofs.split.split_records.Goals as goal

pub loop-i-init : goal.loop-i-init
loop-i-init c = (omega arith, search rules, search rules, narrow_start _ _ _, narrow_start _ _ _)

pub overflow_mul-i : goal.overflow_mul-i
overflow_mul-i c = omega (arith, c.loop-i.invariant.0, c.min-count.ensures)

pub look-seen-requires : goal.look-seen-requires
look-seen-requires c =
    let l = c.loop-i in
    let row = c.min-n.ensures in
    record { n_bound = omega (arith, row); n_in_bounds = omega (arith, row, c.min-count.ensures, l.invariant.0); one_len = (l.invariant.1, l.invariant.2) }

pub overflow_mul-i-in-loop-i : goal.overflow_mul-i-in-loop-i
overflow_mul-i-in-loop-i c = omega (arith, c.loop-i.invariant.0, c.min-count.ensures)

pub lay-requires : goal.lay-requires
lay-requires c =
    let l = c.loop-i in
    let few = c.min-count.ensures in
    let row = c.min-n.ensures in
    let p = c.requires.0 in
    let long = narrow-length _ _ _ l.one l.spare l.i l.invariant.3 (omega (arith, few, l.invariant.0)) (omega (arith, few, l.invariant.0, p)) in
    record { words_len = (c.look-seen.ensures.long.0, omega (arith, row)); n_in_bounds = omega (arith, row, few, l.invariant.0, long, p) }

pub overflow_mul-i-in-loop-i-2 : goal.overflow_mul-i-in-loop-i-2
overflow_mul-i-in-loop-i-2 c = omega (arith, c.loop-i.invariant.0, c.min-count.ensures)

pub lay-requires-in-loop-i : goal.lay-requires-in-loop-i
lay-requires-in-loop-i c =
    let l = c.loop-i in
    let few = c.min-count.ensures in
    let row = c.min-n.ensures in
    let p = c.requires.1 in
    let long = narrow-length _ _ _ l.two l.spare l.i l.invariant.4 (omega (arith, few, l.invariant.0)) (omega (arith, few, l.invariant.0, p)) in
    record { words_len = (c.look-seen.ensures.long.1, omega (arith, row)); n_in_bounds = omega (arith, row, few, l.invariant.0, long, p) }

pub overflow_add-i : goal.overflow_add-i
overflow_add-i c = omega (arith, c.min-n.ensures, c.loop-i.invariant.0, c.min-count.ensures)

pub loop-i-smaller : goal.loop-i-smaller
loop-i-smaller c = omega (arith, c.min-n.ensures, c.loop-i-test.true)

pub loop-i-preserved : goal.loop-i-preserved
loop-i-preserved c =
    let l = c.loop-i in
    let few = c.min-count.ensures in
    let row = c.min-n.ensures in
    let seen = c.look-seen.ensures in
    let there : 8 * l.i + 8 * c.min-n.result ≤ length c.args.bytes.now = omega (arith, row, few, l.invariant.0) in (
      omega (arith, row, c.loop-i-test.true),
      seen.long.0,
      seen.long.1,
      row_laid l.invariant.3 seen there _ (omega (arith, seen.long.0, row)) seen.first c.lay.ensures,
      row_laid l.invariant.4 seen there _ (omega (arith, seen.long.1, row)) seen.second c.lay-in-loop-i.ensures,
    )

pub overflow_mul-result : goal.overflow_mul-result
overflow_mul-result c = omega (arith, c.min-count.ensures)

pub shape_of-one : goal.shape_of-one
shape_of-one c =
    let l = c.loop-i in
    let few = c.min-count.ensures in
    let p = c.requires in
    narrow-length _ _ _ l.one l.spare l.i l.invariant.3 (omega (arith, few, l.invariant.0)) (omega (arith, few, l.invariant.0, p.0))

pub shape_of-two : goal.shape_of-two
shape_of-two c =
    let l = c.loop-i in
    let few = c.min-count.ensures in
    let p = c.requires in
    narrow-length _ _ _ l.two l.spare l.i l.invariant.4 (omega (arith, few, l.invariant.0)) (omega (arith, few, l.invariant.0, p.1))

pub returns : goal.returns
returns c =
    let l = c.loop-i in
    let few = c.min-count.ensures in
    let p = c.requires in
    let done = c.loop-i-test.false in
    record {
      first = thousand _ false _ _ _ p.0 (narrow-end _ _ _ l.one l.spare l.i l.invariant.3 (omega (arith, few, l.invariant.0, done, p.0)) _ (omega (arith, l.invariant.0, done)));
      second = thousand _ true _ _ _ p.1 (narrow-end _ _ _ l.two l.spare l.i l.invariant.4 (omega (arith, few, l.invariant.0, done, p.1)) _ (omega (arith, l.invariant.0, done)));
    }
