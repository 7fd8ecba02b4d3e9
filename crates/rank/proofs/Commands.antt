-- Commands told apart.
-- Assumes nothing.
use Prim.Native.Nat.{ℕ}
use mathlib.Core.Bool.{Bool, true, false, cond}
use mathlib.Core.Path.{◌≡◌, refl, sym, ap, ◌∙◌}
use lib.Dec.{eqb}
use borrow.Author.Tests.{eqb-true}
use Rattle.records.specs.declared.Command.{Command}
use Rattle.records.specs.declared.Command.TheVariants.{Mrs, Ref, Pre, Act, Wr, Rd, Zq, Nop, Des, Sre, Srx, Low, Bad, Pde, Pdx}
use Rattle.records.specs.Command.{rank, is_a}

named : ℕ → Command
named n =
    cond (eqb n 0) Mrs (cond (eqb n 1) Ref (cond (eqb n 2) Pre (cond (eqb n 3) Act (cond (eqb n 4) Wr (cond (eqb n 5) Rd (cond (eqb n 6) Zq (cond (eqb n 7) Nop
    (cond (eqb n 8) Des (cond (eqb n 9) Sre (cond (eqb n 10) Srx (cond (eqb n 11) Low (cond (eqb n 12) Bad (cond (eqb n 13) Pde Pdx)))))))))))))

named-rank : (c : Command) → named (rank c) ≡ c
unfolding named
named-rank Mrs = refl
named-rank Ref = refl
named-rank Pre = refl
named-rank Act = refl
named-rank Wr = refl
named-rank Rd = refl
named-rank Zq = refl
named-rank Nop = refl
named-rank Des = refl
named-rank Sre = refl
named-rank Srx = refl
named-rank Low = refl
named-rank Bad = refl
named-rank Pde = refl
named-rank Pdx = refl

pub a-is : (k c : Command) → is_a k c ≡ true → c ≡ k
a-is k c h = sym (named-rank c) ∙ ap named (eqb-true (rank c) (rank k) h) ∙ named-rank k

pub is-other : (k c : Command) → (c ≡ k → ⊥) → is_a k c ≡ false
is-other k c h = go (is_a k c) refl
  where
    go : (x : Bool) → is_a k c ≡ x → is_a k c ≡ false
    go true e = absurd (h (a-is k c e))
    go false e = e
