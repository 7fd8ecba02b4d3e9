-- A word a turn, and the last one.
-- Assumes nothing.
use Prim.Native.Nat.{◌+◌, ◌-◌, ◌*◌}
use native.Mathlib.Omega.{arith}
use mathlib.Core.Path.{◌∙◌, subst}
use Rattle.wide.proofs.Laying.{put-long, Laying, lay-start, lay-none, lay-turn, lay-end}
use Rattle.wide.proofs.low.lay.Goals as goal

pub returns-then-n-eq0 : goal.returns-then-n-eq0
returns-then-n-eq0 c = rw c.if-n-eq0.true (lay-none c.args.words.now c.args.out.now c.args.at)

pub loop-i-init : goal.loop-i-init
loop-i-init c = lay-start _ _ _

pub overflow_mul-i : goal.overflow_mul-i
overflow_mul-i c = omega (arith, c.requires.words_len.1)

pub overflow_add-at : goal.overflow_add-at
overflow_add-at c = omega (arith, c.loop-i-test.true, c.requires.words_len.1, c.requires.n_in_bounds)

pub offset_bounds-words-i : goal.offset_bounds-words-i
offset_bounds-words-i c = omega (arith, c.requires.words_len.1)

pub bounds-words-i : goal.bounds-words-i
bounds-words-i c = omega (arith, c.loop-i-test.true, c.requires.words_len.1)

pub put_whole-requires : goal.put_whole-requires
put_whole-requires c = omega (arith, c.loop-i-test.true, c.requires.n_in_bounds, c.loop-i.invariant.long)

pub loop-i-preserved : goal.loop-i-preserved
loop-i-preserved c =
    let l = c.loop-i in
    let taken = c.loop-i-test.true in
    let put = c.put_whole.ensures in
    lay-turn _ _ c.args.at l.out l.i l.invariant (omega (arith, taken, c.requires.words_len.0, c.requires.words_len.1)) _ put.out_after put.out_unchanged put.out_len_unchanged

pub overflow_add-at-2 : goal.overflow_add-at-2
overflow_add-at-2 c = omega (arith, c.requires.n_in_bounds, c.well_formed)

pub put-requires : goal.put-requires
put-requires c = omega (arith, c.requires.n_in_bounds, c.loop-i.invariant.long, c.if-n-eq0.false)

pub shape_of-out : goal.shape_of-out
shape_of-out c =
    let l = c.loop-i in
    put-long l.out _ (c.args.at + 6 * (c.args.n - 1)) _ (omega (arith, c.requires.n_in_bounds, l.invariant.long, c.if-n-eq0.false)) c.put.ensures ∙ l.invariant.long

pub returns : goal.returns
returns c =
    let l = c.loop-i in
    let done = c.loop-i-test.false in
    let some = c.if-n-eq0.false in
    lay-end c.args.words.now c.args.out.now c.args.at l.out (c.args.n - 1) (subst (Laying c.args.words.now c.args.out.now c.args.at l.out) (omega (arith, l.auto.i-end, done)) l.invariant) (omega (arith, some, c.requires.words_len.0, c.requires.words_len.1)) _ c.args.n (omega (arith, some)) c.put.ensures
