-- What `io::decimal` writes is the number in decimal, with no zero in front.
-- Assumes nothing.
use Prim.Native.Nat.{ℕ, zero, suc, ◌+◌, ◌-◌, ◌*◌, ◌/◌, ◌%◌, ◌^◌, ◌≤◌, ◌<◌}
use native.Mathlib.Nat.{mod-lt, pow-suc, one-le-pow, pow-le-pow_right, le-div_iff_mul-le, div-lt_iff_lt-mul}
use native.Mathlib.Omega.{arith}
use mathlib.Core.Path.{◌≡◌, refl}
use mathlib.Core.Bool.{Bool, true, false}
use borrow.Author.Tests.{lt-ltb, le-ltb, ltb-true, ltb-false}
use lib.Dec.{ltb}
use Rattle.io.specs.Digits.{last_digits, hex_digit_ascii, IsDigitCount}
use Rattle.lines.specs.Line.{decimal_in}

digit : (n : ℕ) → hex_digit_ascii (n % 10) ≡ 48 + n % 10
digit n = rw (lt-ltb (n % 10) 10 (mod-lt n (omega arith)))

-- a number of 64 bits has at most 20 digits
pub twenty : (k n : ℕ) → n < 2 ^ 64 → IsDigitCount 10 1 n k → k ≤ 20
twenty k n small f = go (ltb 20 k) refl
  where
    go : (x : Bool) → ltb 20 k ≡ x → k ≤ 20
    go false t = ltb-false 20 k t
    go true t =
        let more : 20 < k = ltb-true 20 k t in
        let places : 20 ≤ k - 1 = omega arith in
        let ten : 0 < 10 = omega arith in
        absurd (omega (arith, pow-le-pow_right ten places, f.2 (omega arith)))

-- a number of two digits or more
tens : (k n : ℕ) → IsDigitCount 10 1 n (suc (suc k)) → 10 ^ k * 10 ≤ n
tens k n f = let less : suc (suc k) - 1 ≡ suc k = omega arith in rw (less, pow-suc) at (f.2 (omega arith))

-- the digits in front of the last
front : (k n : ℕ) → IsDigitCount 10 1 n (suc (suc k)) → IsDigitCount 10 1 (n / 10) (suc k)
front k n f =
    let small : n < 10 ^ suc k * 10 = rw pow-suc at f.1 in
    let ten : 0 < 10 = omega arith in
    let less : suc k - 1 ≡ k = omega arith in
    (omega arith, (div-lt_iff_lt-mul ten).1 small, λ h. rw less ((le-div_iff_mul-le ten).1 (tens k n f)))

pub spelled : (places k n : ℕ) → k ≤ places → IsDigitCount 10 1 n k → last_digits 10 k n ≡ decimal_in places n
unfolding decimal_in
spelled places zero n h f = absurd (omega arith)
spelled zero (suc k) n h f = absurd (omega arith)
spelled (suc places) (suc zero) n h f = rw (lt-ltb n 10 f.1, digit n)
spelled (suc places) (suc (suc k)) n h f =
    let large : 10 ≤ n = omega (arith, tens k n f, one-le-pow k 10 (omega arith)) in
    let rest : last_digits 10 (suc k) (n / 10) ≡ decimal_in places (n / 10) = spelled places (suc k) (n / 10) (omega arith) (front k n f) in
    rw (le-ltb n 10 large, ← rest, digit n)
