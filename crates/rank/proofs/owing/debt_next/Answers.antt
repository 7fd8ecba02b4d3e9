-- By the command.
-- Assumes nothing.
use Prim.Native.Nat.{ℕ, ◌≤◌}
use native.Mathlib.Omega.{arith}
use mathlib.Core.Bool.{Bool, true, false, cond}
use Rattle.records.specs.declared.Command.TheVariants.{Ref, Sre, Srx}
use Rattle.records.proofs.Tags.{told}
use Rattle.edges.specs.Next.{debt_next}
use Rattle.rank.proofs.owing.debt_next.Goals as goal

woken-most : (s : Bool) (e : ℕ) → cond s e 0 ≤ e
woken-most true e = omega arith
woken-most false e = omega arith

pub returns-then-eq : goal.returns-then-eq
unfolding debt_next
returns-then-eq c = simp (c.paid.ensures, told c.args.c Ref c.eq.ensures c.if-eq.true, c.counting-from.ensures.value)

pub returns-then-eq-2 : goal.returns-then-eq-2
unfolding debt_next
returns-then-eq-2 c = simp (c.since-then-eq-2.ensures, c.since.ensures, told c.args.c Sre c.eq-2.ensures c.if-eq-2.true, told c.args.c Ref c.eq.ensures c.if-eq.false, c.counting-from.ensures.value)

pub overflow_add-result-then-eq-3 : goal.overflow_add-result-then-eq-3
overflow_add-result-then-eq-3 c = omega (arith, c.either-to.ensures, woken-most c.args.d.sleeps c.args.e, c.requires.e_le_far_edge, c.requires.due_le_far_edge.0)

pub overflow_add-result-then-eq-3-2 : goal.overflow_add-result-then-eq-3-2
overflow_add-result-then-eq-3-2 c = omega (arith, c.either-to.ensures, woken-most c.args.d.sleeps c.args.e, c.requires.e_le_far_edge, c.requires.due_le_far_edge.1)

pub returns-then-eq-3 : goal.returns-then-eq-3
unfolding debt_next
returns-then-eq-3 c = simp (c.either-to.ensures, told c.args.c Srx c.eq-3.ensures c.if-eq-3.true, told c.args.c Sre c.eq-2.ensures c.if-eq-2.false, told c.args.c Ref c.eq.ensures c.if-eq.false)

pub returns : goal.returns
unfolding debt_next
returns c = simp (told c.args.c Srx c.eq-3.ensures c.if-eq-3.false, told c.args.c Sre c.eq-2.ensures c.if-eq-2.false, told c.args.c Ref c.eq.ensures c.if-eq.false)
