-- Changes of CKE, and what it is to be asleep, by the commands.
-- Assumes nothing.
use Prim.Native.Nat.{ℕ}
use mathlib.Core.Path.{◌≡◌, refl}
use mathlib.Core.Bool.{Bool, true, false, cond, not, ◌&&◌, ◌||◌}
use mathlib.Core.List.{[], ◌∷◌}
use lib.Dec.{eqb, leb}
use Rattle.records.specs.declared.Record.{Record}
use Rattle.records.specs.declared.Command.{Command}
use Rattle.records.specs.declared.Command.TheVariants.{Mrs, Ref, Pre, Act, Wr, Rd, Zq, Nop, Des, Sre, Srx, Low, Bad, Pde, Pdx}
use Rattle.records.specs.Command.{by_pins, falling, rising, command_of, is_a}
use Rattle.running.specs.Next.{changing}
use Rattle.rules.specs.Past.{Past, cke, changes, asleep, command, is}
use Rattle.rules.proofs.Events.{never}

-- the pins alone give none
pub pins-still : (P : Command → Type 0) → P Mrs → P Ref → P Pre → P Act → P Wr → P Rd → P Zq → P Nop → P Des → (n : ℕ) → P (by_pins n)
unfolding by_pins
pins-still P a b c d e f g h i n = go (eqb n 0) (eqb n 1) (eqb n 2) (eqb n 3) (eqb n 4) (eqb n 5) (eqb n 6) (eqb n 7)
  where
    go : (x0 x1 x2 x3 x4 x5 x6 x7 : Bool)
        → P (cond x0 Mrs (cond x1 Ref (cond x2 Pre (cond x3 Act (cond x4 Wr (cond x5 Rd (cond x6 Zq (cond x7 Nop Des))))))))
    go true x1 x2 x3 x4 x5 x6 x7 = a
    go false true x2 x3 x4 x5 x6 x7 = b
    go false false true x3 x4 x5 x6 x7 = c
    go false false false true x4 x5 x6 x7 = d
    go false false false false true x5 x6 x7 = e
    go false false false false false true x6 x7 = f
    go false false false false false false true x7 = g
    go false false false false false false false true = h
    go false false false false false false false false = i

-- before a fall CKE is high, and then the part is awake
pub high-awake : (p : Past) → cke p ≡ true → asleep p ≡ false
unfolding asleep
high-awake [] h = refl
high-awake (r ∷ p) h = rw h

-- a part that is asleep after a change fell asleep at it
pub asleep-by-changes : (r : Record) (p : Past) → asleep (r ∷ p) ≡ cond (changes (r ∷ p)) (is Sre (r ∷ p)) (asleep p)
unfolding asleep command_of falling rising
asleep-by-changes r p = go (cke p) r.cke (eqb r.pins 1) (leb 7 r.pins) (asleep p) (high-awake p)
  where
    go : (b k x y s : Bool) → (b ≡ true → s ≡ false)
        → cond k false (cond b x s)
        ≡ cond (cond b (not k) k) (is_a Sre (cond b (cond k (by_pins r.pins) (cond x Sre (cond y Pde Bad))) (cond k (cond y (cond s Srx Pdx) Bad) Low))) s
    go true true x y s f = rw (f refl)
    go true false true y s f = refl
    go true false false true s f = refl
    go true false false false s f = refl
    go false true x true true f = refl
    go false true x true false f = refl
    go false true x false s f = refl
    go false false x y s f = refl

-- so it is by SRE and SRX, where no change breaks rule 1
pub sleeps-on : (r : Record) (p : Past) → is Bad (r ∷ p) ≡ false → asleep (r ∷ p) ≡ is Sre (r ∷ p) || (not (is Srx (r ∷ p)) && asleep p)
unfolding asleep command_of falling rising
sleeps-on r p =
    go (cke p) r.cke (eqb r.pins 1) (leb 7 r.pins) (asleep p) (by_pins r.pins) (high-awake p)
    (pins-still (λ c. is_a Sre c ≡ false) refl refl refl refl refl refl refl refl refl r.pins)
    (pins-still (λ c. is_a Srx c ≡ false) refl refl refl refl refl refl refl refl refl r.pins)
  where
    go : (b k x y s : Bool) (c : Command) → (b ≡ true → s ≡ false) → is_a Sre c ≡ false → is_a Srx c ≡ false
        → is_a Bad (cond b (cond k c (cond x Sre (cond y Pde Bad))) (cond k (cond y (cond s Srx Pdx) Bad) Low)) ≡ false
        → cond k false (cond b x s)
        ≡ is_a Sre (cond b (cond k c (cond x Sre (cond y Pde Bad))) (cond k (cond y (cond s Srx Pdx) Bad) Low))
        || (not (is_a Srx (cond b (cond k c (cond x Sre (cond y Pde Bad))) (cond k (cond y (cond s Srx Pdx) Bad) Low))) && s)
    go true true x y s c f u v h = rw (u, v, f refl)
    go true false true y s c f u v h = refl
    go true false false true s c f u v h = rw (f refl)
    go true false false false s c f u v h = never refl h
    go false true x true true c f u v h = refl
    go false true x true false c f u v h = refl
    go false true x false s c f u v h = never refl h
    go false false x y s c f u v h = refl

-- and CKE changes at these four
pub changes-are : (r : Record) (p : Past) → is Bad (r ∷ p) ≡ false → changes (r ∷ p) ≡ changing (command (r ∷ p))
unfolding command_of falling rising
changes-are r p =
    go (cke p) r.cke (eqb r.pins 1) (leb 7 r.pins) (asleep p) (by_pins r.pins)
    (pins-still (λ c. changing c ≡ false) refl refl refl refl refl refl refl refl refl r.pins)
  where
    go : (b k x y s : Bool) (c : Command) → changing c ≡ false
        → is_a Bad (cond b (cond k c (cond x Sre (cond y Pde Bad))) (cond k (cond y (cond s Srx Pdx) Bad) Low)) ≡ false
        → cond b (not k) k ≡ changing (cond b (cond k c (cond x Sre (cond y Pde Bad))) (cond k (cond y (cond s Srx Pdx) Bad) Low))
    go true true x y s c u h = rw u
    go true false true y s c u h = refl
    go true false false true s c u h = refl
    go true false false false s c u h = never refl h
    go false true x true true c u h = refl
    go false true x true false c u h = refl
    go false true x false s c u h = never refl h
    go false false x y s c u h = refl
