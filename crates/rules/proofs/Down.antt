-- Power-down in a clean past: the latest change of CKE is the entry just where CKE is low and the part is not asleep, and no bank is touched
-- before the exit.
-- Assumes nothing.
use Prim.Native.Nat.{ℕ, zero, suc, ◌<◌}
use native.Mathlib.Omega.{arith}
use mathlib.Core.Path.{◌≡◌, refl, sym, ap, ◌∙◌}
use mathlib.Core.Logic.{⊎_elim}
use mathlib.Core.Bool.{Bool, true, false, cond, not, ◌||◌}
use mathlib.Core.List.{[], ◌∷◌}
use lib.Dec.{eqb, leb, ltb}
use Rattle.laws.specs.Any.{any_of}
use Rattle.answers.specs.declared.Bank.TheVariants.{Idle, Open, Closing}
use Rattle.records.specs.declared.Record.{Record}
use Rattle.records.specs.declared.Command.{Command}
use Rattle.records.specs.declared.Command.TheVariants.{Sre, Srx, Low, Bad, Pde, Pdx}
use Rattle.records.specs.Command.{by_pins, falling, rising, command_of, is_a}
use Rattle.chip.specs.declared.Chip.{Chip}
use Rattle.running.specs.declared.Kept.{Kept}
use Rattle.running.specs.Breaks.{status_of}
use Rattle.rules.specs.Past.{Past, edge, cke, changes, asleep, command, is, latest}
use Rattle.rules.specs.Banks.{touches, is_open, seen, status}
use Rattle.rules.specs.Down.{turned, down, precharged}
use Rattle.rules.proofs.Generic.{decide}
use Rattle.rules.proofs.Events.{never, push}
use Rattle.rules.proofs.Clean.{Clean, clean-tail, not-bad}
use Rattle.rules.proofs.Summary.{kept}
use Rattle.rules.proofs.Status.{status-of}

module _ (C : Chip) where
  pub down_is : (p : Past) → Clean C p → down p ≡ not (cke p || asleep p)
  unfolding asleep command_of falling rising
  down_is [] h = refl
  down_is (r ∷ p) h =
      sym (push (is Pde) (changes (r ∷ p)) (r ∷ p) (turned p))
      ∙ ap (cond (changes (r ∷ p)) (is Pde (r ∷ p))) (down_is p (clean-tail C r p h))
      ∙ go (cke p) r.cke (eqb r.pins 1) (leb 7 r.pins) (asleep p) (by_pins r.pins) (not-bad C r p h)
    where
      go : (b k x y s : Bool) (c : Command)
          → is_a Bad (cond b (cond k c (cond x Sre (cond y Pde Bad))) (cond k (cond y (cond s Srx Pdx) Bad) Low)) ≡ false
          → cond (cond b (not k) k) (is_a Pde (cond b (cond k c (cond x Sre (cond y Pde Bad))) (cond k (cond y (cond s Srx Pdx) Bad) Low))) (not (b || s))
          ≡ not (k || cond k false (cond b x s))
      go true true x y s c g = refl
      go true false true y s c g = refl
      go true false false true s c g = refl
      go true false false false s c g = never refl g
      go false true x true true c g = refl
      go false true x true false c g = refl
      go false true x false s c g = refl
      go false false x y s c g = refl

-- while CKE stays low
pub low-is : (r : Record) (p : Past) → cke p ≡ false → changes (r ∷ p) ≡ false → command (r ∷ p) ≡ Low
unfolding command_of
low-is r p x y = let z : r.cke ≡ false = rw x at y in rw (x, z)

-- no bank is touched
low-still : (b : ℕ) (r : Record) (p : Past) → cke p ≡ false → changes (r ∷ p) ≡ false → touches b (r ∷ p) ≡ false
low-still b r p x y = rw (low-is r p x y)

neither-is : (a b : Bool) → not (a || b) ≡ true → (a ≡ false) × (b ≡ false)
neither-is true b h = never refl (ap not h)
neither-is false true h = never refl (ap not h)
neither-is false false h = (refl, refl)

open_is : (k : Kept) (t : ℕ) → is_open (status_of k t) ≡ ltb k.shut.num k.acted.num
unfolding status_of
open_is k t = go (ltb k.shut.num k.acted.num) (leb k.shut.at t)
  where
    go : (x y : Bool) → is_open (cond x (Open k.acted.at k.acted.num k.row) (cond y Idle (Closing k.acted.at k.acted.num k.row))) ≡ x
    go true y = refl
    go false true = refl
    go false false = refl

pub any-ext : (f g : ℕ → Bool) (n : ℕ) → ((b : ℕ) → b < n → f b ≡ g b) → any_of f n ≡ any_of g n
unfolding any_of
any-ext f g zero h = refl
any-ext f g (suc n) h = λ i. any-ext f g n (λ b l. h b (omega arith)) i || h n (omega arith) i

module _ (C : Chip) where
  pub low-in : (p : Past) → Clean C p → down p ≡ true → (cke p ≡ false) × (asleep p ≡ false)
  low-in p h y = neither-is (cke p) (asleep p) (sym (down_is C p h) ∙ y)

  -- what a bank's latest event was at the entry it is at the exit
  still-touched : (b : ℕ) (p : Past) → Clean C p → down p ≡ true → latest (touches b) (turned p) ≡ latest (touches b) p
  still-touched b [] h y = refl
  still-touched b (r ∷ p) h y = ⊎_elim
      (λ (c : changes (r ∷ p) ≡ true). rw c)
      (λ (n : changes (r ∷ p) ≡ false).
      let d : down p ≡ true = rw n at y in
      let l = low-in p (clean-tail C r p h) d in
      rw (n, low-still b r p l.0 n) (still-touched b p (clean-tail C r p h) d))
      (decide (changes (r ∷ p)))

  pub open_at : (b : ℕ) (p : Past) → Clean C p → down p ≡ true
      → is_open (status C b (turned p) (edge (turned p))) ≡ ltb (kept C p b).shut.num (kept C p b).acted.num
  open_at b p h y =
      ap (λ s. is_open (seen C b s (edge (turned p)))) (still-touched b p h y)
      ∙ ap is_open (sym (status-of C b (edge (turned p)) p))
      ∙ open_is (kept C p b) (edge (turned p))

  -- so precharge power-down is told at the exit
  pub precharged-is : (p : Past) → Clean C p → down p ≡ true
      → precharged C (turned p) ≡ not (any_of (λ b. ltb (kept C p b).shut.num (kept C p b).acted.num) 8)
  unfolding precharged
  precharged-is p h y = ap not (any-ext _ _ 8 (λ b l. open_at b p h y))
