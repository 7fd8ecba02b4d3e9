-- A record's bytes read the other way round: what a rank sees, worked out in that word, has the bytes of the record that it sees.
-- Assumes nothing.
use Prim.Native.Nat.{ℕ, ◌+◌, ◌*◌, ◌/◌, ◌%◌, ◌<◌}
use native.Mathlib.Nat.{div-one}
use native.Mathlib.Omega.{arith}
use mathlib.Core.Bool.{Bool, true, false, cond}
use mathlib.Core.List.{[], ◌∷◌}
use mathlib.Core.Path.{◌≡◌, refl, sym, ap, ◌∙◌}
use lib.Dec.{eqb}
use borrow.Author.Tests.{eqb-true, eqb-false, eq-eqb, ne_eqb}
use Rattle.bits.specs.Bits.{word48}
use Rattle.wide.specs.Wide.{word64, field, fields_of, rank_of}
use Rattle.wide.specs.Moved.{packed, bytes6}
use Rattle.wide.specs.Low.{low6, seen_low, spare_low, Turned}
use Rattle.wide.proofs.Words.{bytes6-word}
use Rattle.wide.proofs.Packing.{narrowed_word}

-- six bytes of a word
record Low6 (n a b c d e f : ℕ) : Type 0 where
  l0 : n % 256 ≡ a
  l1 : n / 256 % 256 ≡ b
  l2 : n / 65536 % 256 ≡ c
  l3 : n / 16777216 % 256 ≡ d
  l4 : n / 4294967296 % 256 ≡ e
  l5 : n / 1099511627776 % 256 ≡ f

module _ (a b c d e f : ℕ) (al : a < 256) (bl : b < 256) (cl : c < 256) (dl : d < 256) (el : e < 256) (fl : f < 256) where
  lows-of : Low6 (word48 f e d c b a) a b c d e f
  unfolding word48
  lows-of = omega arith

  low6-word : low6 (word48 f e d c b a) ≡ bytes6 (word48 a b c d e f)
  unfolding low6
  low6-word =
      let p = lows-of in
      (λ i. p.l0 i ∷ p.l1 i ∷ p.l2 i ∷ p.l3 i ∷ p.l4 i ∷ p.l5 i ∷ []) ∙ sym (bytes6-word a b c d e f al bl cl dl el fl)

-- the six bytes as a sum of their parts: the pins and A's, each with what comes from the next byte; CKE and CS
summed : (b0 b1 b2 pins high low bank middle last cke cs n : ℕ)
    → n ≡ b0 + b1 * 256 + b2 * 65536 + (pins * 134217728 + high * 34359738368 + low * 8796093022208)
    + (bank * 16777216 + middle * 4294967296 + last * 1099511627776) + (cke * 2147483648 + cs * 1073741824)
    → n ≡ word48 (low * 8 + last) (high * 8 + middle) (cke * 128 + cs * 64 + pins * 8 + bank) b2 b1 b0
unfolding word48
summed b0 b1 b2 pins high low bank middle last cke cs n e = omega (arith, e)

-- either number is 0 just if both its parts are
both_zero : (m n : ℕ) → eqb (m + n * 256) 0 ≡ eqb (m * 256 + n) 0
both_zero m n = go (eqb (m * 256 + n) 0) refl
  where
    go : (b : Bool) → eqb (m * 256 + n) 0 ≡ b → eqb (m + n * 256) 0 ≡ b
    go true e = eq-eqb (m + n * 256) 0 (omega (arith, eqb-true (m * 256 + n) 0 e))
    go false e = ne_eqb (m + n * 256) 0 (λ z. eqb-false (m * 256 + n) 0 e (omega (arith, z)))

module _ (b0 b1 b2 b3 b4 b5 b6 b7 : ℕ) (l0 : b0 < 256) (l1 : b1 < 256) (l2 : b2 < 256) (l3 : b3 < 256) (l4 : b4 < 256) (l5 : b5 < 256) (l6 : b6 < 256) (l7 : b7 < 256) where
  abbrev x : ℕ
  x = word64 b7 b6 b5 b4 b3 b2 b1 b0

  abbrev w : ℕ
  w = word64 b0 b1 b2 b3 b4 b5 b6 b7

  -- the fourth byte that a rank sees, by its CS; the fifth and the sixth
  abbrev fourth : ℕ → ℕ
  fourth cs = b3 / 64 % 2 * 128 + cs * 64 + b3 % 8 * 8 + b4 / 32

  abbrev fifth : ℕ
  fifth = b4 % 32 * 8 + b5 / 32

  abbrev sixth : ℕ
  sixth = b5 % 32 * 8 + b6 / 32

  -- the parts of the one word
  record Parts (x : ℕ) : Type 0 where
    step : x % 16777216 ≡ b0 + b1 * 256 + b2 * 65536
    pins : x / 16777216 % 8 ≡ b3 % 8
    second : x / 268435456 % 2 ≡ b3 / 16 % 2
    cke : x / 1073741824 % 2 ≡ b3 / 64 % 2
    first : x / 536870912 % 4 ≡ b3 / 64 % 2 * 2 + b3 / 32 % 2
    bank : x / 137438953472 % 8 ≡ b4 / 32
    high : x / 4294967296 % 32 ≡ b4 % 32
    middle : x / 35184372088832 % 8 ≡ b5 / 32
    low : x / 1099511627776 % 32 ≡ b5 % 32
    last : x / 9007199254740992 % 8 ≡ b6 / 32
    spare : x / 281474976710656 % 32 ≡ b6 % 32
    end : x / 72057594037927936 ≡ b7

  parts : Parts x
  unfolding word64
  parts = omega arith

  -- and of the other
  record Others (w : ℕ) : Type 0 where
    small : w < 18446744073709551616
    step : w / 1099511627776 ≡ b0 * 65536 + b1 * 256 + b2
    cke : w / 274877906944 % 2 ≡ b3 / 64 % 2
    first : w / 137438953472 % 2 ≡ b3 / 32 % 2
    second : w / 68719476736 % 2 ≡ b3 / 16 % 2
    rest : w / 8192 % 4194304 ≡ b3 % 8 * 524288 + b4 * 2048 + b5 * 8 + b6 / 32
    zero : w % 8192 ≡ b6 % 32 * 256 + b7

  others : Others w
  unfolding word64
  others = omega arith

  fourth-small : (cs : ℕ) → cs < 2 → fourth cs < 256
  fourth-small cs small = omega arith

  -- what a rank sees is these six bytes, the one way round and the other
  first-is : seen_low false x ≡ word48 sixth fifth (fourth (b3 / 32 % 2)) b2 b1 b0
  unfolding seen_low
  first-is =
      let p = parts in
      rw (p.step, p.pins, p.first, p.bank, p.high, p.middle, p.low, p.last)
      (summed b0 b1 b2 (b3 % 8) (b4 % 32) (b5 % 32) (b4 / 32) (b5 / 32) (b6 / 32) (b3 / 64 % 2) (b3 / 32 % 2) _ (omega arith))

  second_is : seen_low true x ≡ word48 sixth fifth (fourth (b3 / 16 % 2)) b2 b1 b0
  unfolding seen_low
  second_is =
      let p = parts in
      rw (p.step, p.pins, p.cke, p.second, p.bank, p.high, p.middle, p.low, p.last)
      (summed b0 b1 b2 (b3 % 8) (b4 % 32) (b5 % 32) (b4 / 32) (b5 / 32) (b6 / 32) (b3 / 64 % 2) (b3 / 16 % 2) _ (omega arith))

  packed-is : (second : Bool) (cs : ℕ) → cs ≡ cond second (field w 27 1) (field w 26 1) → packed (rank_of second (fields_of w)) ≡ word48 b0 b1 b2 (fourth cs) fifth sixth
  unfolding word48
  packed-is second cs is =
      let o = others in
      sym (narrowed_word w cs second o.small is) ∙ omega (arith, o.step, o.cke, o.rest)

  sees : (second : Bool) (cs n : ℕ) → cs < 2 → cs ≡ cond second (field w 27 1) (field w 26 1) → n ≡ word48 sixth fifth (fourth cs) b2 b1 b0
      → low6 n ≡ bytes6 (packed (rank_of second (fields_of w)))
  sees second cs n small is e =
      ap low6 e ∙ low6-word b0 b1 b2 (fourth cs) fifth sixth l0 l1 l2 (fourth-small cs small) (omega arith) (omega arith)
      ∙ ap bytes6 (sym (packed-is second cs is))

  zero_is : (fields_of w).zero ≡ b6 % 32 * 256 + b7
  unfolding fields_of
  zero_is = rw div-one others.zero

  spare-is : spare_low x ≡ b6 % 32 + b7 * 256
  unfolding spare_low
  spare-is = let p = parts in omega (arith, p.spare, p.end)

  pub turned-word : Turned x w
  turned-word = record {
    seen = go;
    spare = ap (λ (n : ℕ). eqb n 0) spare-is ∙ both_zero (b6 % 32) b7 ∙ ap (λ (n : ℕ). eqb n 0) (sym zero_is);
    few = omega (arith, spare-is);
  }
    where
      go : (second : Bool) → low6 (seen_low second x) ≡ bytes6 (packed (rank_of second (fields_of w)))
      go true = sees true (b3 / 16 % 2) _ (omega arith) (sym others.second) second_is
      go false = sees false (b3 / 32 % 2) _ (omega arith) (sym others.first) first-is
