-- The edge before which no deadline passes: the banks are seen one after the other; and after a seldom command.
-- Assumes nothing.
use Prim.Native.Nat.{ℕ, ◌+◌, ◌≤◌, ◌<◌, min}
use native.Mathlib.Omega.{arith}
use mathlib.Core.Bool.{Bool, true, false, cond, ◌||◌}
use mathlib.Core.Logic.{inl, inr, ⊎_elim}
use mathlib.Core.Path.{◌≡◌, refl, subst}
use lib.Dec.{ltb}
use borrow.Author.Tests.{ltb-true, ltb-false}
use Rattle.records.specs.declared.Command.{Command}
use Rattle.records.specs.declared.Command.TheVariants.{Ref, Pre, Srx, Pde}
use Rattle.records.specs.Command.{is_a}
use Rattle.edges.specs.declared.Banks.{Banks}
use Rattle.edges.specs.declared.Debt.{Debt}
use Rattle.edges.specs.Clearing.{Off, BankClears, Clears, Owing, ClearTo, owing_by, clear_next}

pub off-sooner : (lo x x' d : ℕ) → x' ≤ x → Off lo x d → Off lo x' d
off-sooner lo x x' d l h = ⊎_elim inl (λ u. inr (omega (arith, u, l))) h

module _ (most : ℕ) (B : Banks) (lo : ℕ) where
  pub clear-start : ClearTo most B lo (lo + most + 1) 0
  clear-start = record { seen = λ i l. absurd (omega (arith, l)); near = omega arith }

  module _ (x b : ℕ) (h : ClearTo most B lo x b) where
    pub clear_next_lem : (x' : ℕ) → BankClears most B lo x' b → x' ≤ x → ClearTo most B lo x' (b + 1)
    clear_next_lem x' off below = record { seen = λ i l. go i l (ltb i b) refl; near = omega (arith, h.near, below) }
      where
        go : (i : ℕ) → i < b + 1 → (z : Bool) → ltb i b ≡ z → BankClears most B lo x' i
        go i l true e = off-sooner lo x x' _ below (h.seen i (ltb-true i b e))
        go i l false e = subst (λ k. BankClears most B lo x' k) same off
          where
            same : b ≡ i
            same = omega (arith, l, ltb-false i b e)

    pub clear-end : (x' : ℕ) → 8 ≤ b → x' ≤ x → Clears most B lo x'
    clear-end x' all below i l = off-sooner lo x x' _ below (h.seen i (omega (arith, l, all)))

-- ── After a seldom command ──────────────────────────────────────────────────────────────────

pub owing-by : (D : Debt) (x : ℕ) → Owing D (owing_by D x)
owing-by D x = go D.sleeps refl
  where
    go : (z : Bool) → D.sleeps ≡ z → Owing D (cond z x (min (min x D.due) D.gap))
    go true e = inl e
    go false e = inr (omega arith, omega arith)

pub owing-below : (D : Debt) (x : ℕ) → owing_by D x ≤ x
owing-below D x = go D.sleeps
  where
    go : (z : Bool) → cond z x (min (min x D.due) D.gap) ≤ x
    go true = omega arith
    go false = omega arith

module _ (m s : ℕ) (c : Command) (e at : ℕ) (D : Debt) (x : ℕ) where
  pub next-owed : (is_a Ref c ≡ false → is_a Srx c ≡ false → Owing D x) → Owing D (clear_next m s c e at D x)
  unfolding clear_next
  next-owed h = go (is_a Ref c) refl (is_a Pre c) (is_a Srx c) refl (is_a Pde c)
    where
      go : (a : Bool) → is_a Ref c ≡ a → (p b : Bool) → is_a Srx c ≡ b → (d : Bool)
          → Owing D (cond (a || p) (owing_by D (e + m + 1)) (cond b (owing_by D x) (cond d (min x (at + s + 1)) x)))
      go true k p b u d = owing-by D (e + m + 1)
      go false k true b u d = owing-by D (e + m + 1)
      go false k false true u d = owing-by D x
      go false k false false u true = ⊎_elim inl (λ y. inr (omega (arith, y.0), omega (arith, y.1))) (h k u)
      go false k false false u false = h k u

  pub next-near : x ≤ e + m + 1 → clear_next m s c e at D x ≤ e + m + 1
  unfolding clear_next
  next-near h = go (is_a Ref c || is_a Pre c) (is_a Srx c) (is_a Pde c)
    where
      go : (a b d : Bool) → cond a (owing_by D (e + m + 1)) (cond b (owing_by D x) (cond d (min x (at + s + 1)) x)) ≤ e + m + 1
      go true b d = owing-below D (e + m + 1)
      go false true d = omega (arith, owing-below D x)
      go false false true = omega arith
      go false false false = h

  -- where a bank may be open it is no later than it was
  pub next-below : is_a Ref c ≡ false → is_a Pre c ≡ false → clear_next m s c e at D x ≤ x
  unfolding clear_next
  next-below p q = rw (p, q) (go (is_a Srx c) (is_a Pde c))
    where
      go : (b d : Bool) → cond b (owing_by D x) (cond d (min x (at + s + 1)) x) ≤ x
      go true d = owing-below D x
      go false true = omega arith
      go false false = omega arith
