-- One answer for each public contract, and no two refusals with one number.
-- Assumes nothing.
use Rattle.std.proofs.Common.{ℕ, Result, Ok, Err, Option, Some, None, ◌≡◌, ◌+◌, ◌*◌, refl, sym, ap, arith}
use mathlib.Core.Path.{◌∙◌}
use Rattle.std.proofs.lemmas.Bool.{ne_eqb}
use Rattle.laws.proofs.Unique.{Unique, one_answer}
use Rattle.refusals.specs.declared.Refusal.{Refusal}
use Rattle.refusals.specs.declared.Refusal.TheVariants.{HeaderLength, Edition, ZeroField, Period, CutShort, ZeroStep, TooMany, EndEdge, Room, Burst, Register, NoWayBack, ZeroBits, State}
use Rattle.refusals.specs.Refusals.{number_of, number_in, number_if, refusal_of}
use Rattle.refusals.specs.Promises.{Number, Code}

pub number-unique : (r : Refusal) → Unique (Number r)
number-unique r = one_answer (number_of r)

pub code-unique : (done : Result Unit Refusal) → Unique (Code done)
code-unique done = one_answer (number_in done)

-- 0 is no refusal's
pub never_0 : (r : Refusal) → number_of r ≡ 0 → ⊥
never_0 HeaderLength = omega arith
never_0 Edition = omega arith
never_0 ZeroField = omega arith
never_0 Period = omega arith
never_0 CutShort = omega arith
never_0 ZeroStep = omega arith
never_0 TooMany = omega arith
never_0 EndEdge = omega arith
never_0 Room = omega arith
never_0 Burst = omega arith
never_0 (Register bit) = omega arith
never_0 NoWayBack = omega arith
never_0 ZeroBits = omega arith
never_0 State = omega arith

-- the bit that an eleven comes with, and that it is no other's number
at_bit : (bit : ℕ) → refusal_of (11 + 256 * bit) ≡ Register bit
at_bit bit =
    simp (
      ne_eqb (11 + 256 * bit) 1 (omega arith),
      ne_eqb (11 + 256 * bit) 2 (omega arith),
      ne_eqb (11 + 256 * bit) 3 (omega arith),
      ne_eqb (11 + 256 * bit) 4 (omega arith),
      ne_eqb (11 + 256 * bit) 5 (omega arith),
      ne_eqb (11 + 256 * bit) 6 (omega arith),
      ne_eqb (11 + 256 * bit) 7 (omega arith),
      ne_eqb (11 + 256 * bit) 8 (omega arith),
      ne_eqb (11 + 256 * bit) 9 (omega arith),
      ne_eqb (11 + 256 * bit) 10 (omega arith),
      ne_eqb (11 + 256 * bit) 13 (omega arith),
      ne_eqb (11 + 256 * bit) 14 (omega arith),
      ne_eqb (11 + 256 * bit) 17 (omega arith),
    )
    (ap Register (omega arith))

-- no two refusals have one number
pub number_told : (r : Refusal) → refusal_of (number_of r) ≡ r
number_told HeaderLength = refl
number_told Edition = refl
number_told ZeroField = refl
number_told Period = refl
number_told CutShort = refl
number_told ZeroStep = refl
number_told TooMany = refl
number_told EndEdge = refl
number_told Room = refl
number_told Burst = refl
number_told (Register bit) = at_bit bit
number_told NoWayBack = refl
number_told ZeroBits = refl
number_told State = refl

pub number_one : (r s : Refusal) → number_of r ≡ number_of s → r ≡ s
number_one r s e = sym (number_told r) ∙ ap refusal_of e ∙ number_told s

-- so that a number tells what was answered
pub done-told : (a b : Result Unit Refusal) → number_in a ≡ number_in b → a ≡ b
done-told (Ok x) (Ok y) e = refl
done-told (Ok x) (Err r) e = absurd (never_0 r (sym e))
done-told (Err r) (Ok x) e = absurd (never_0 r e)
done-told (Err q) (Err r) e = ap Err (number_one q r e)

-- and what was refused so far
pub if-told : (a b : Option Refusal) → number_if a ≡ number_if b → a ≡ b
if-told None None e = refl
if-told None (Some r) e = absurd (never_0 r (sym e))
if-told (Some r) None e = absurd (never_0 r e)
if-told (Some q) (Some r) e = ap Some (number_one q r e)
