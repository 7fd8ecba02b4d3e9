-- A record of edition 2 and its word, a word and its bytes: each tells the other.
-- Assumes nothing.
use Prim.Native.Nat.{ℕ, ◌+◌, ◌*◌, ◌/◌, ◌%◌, ◌^◌, ◌<◌}
use native.Mathlib.Nat.{div-div-eq-div-mul, div-one}
use native.Mathlib.Omega.{arith}
use mathlib.Core.List.{List, [], ◌∷◌}
use mathlib.Core.Path.{◌≡◌, ap, ◌∙◌}
use lib.Dec.{eqb}
use lib.ListN.{length}
use lib.Seq.{get_or-drop, drop-drop}
use Rattle.wide.specs.declared.Wide.{Wide}
use Rattle.wide.specs.Spread.{Bytes}
use Rattle.wide.specs.Wide.{word64, fields_of, wide_at, level}
use Rattle.wide.specs.Moved.{packed_wide, bytes8}
use Rattle.wide.proofs.Words.{bit, told, level-small, all-in-turn}

-- ── A record and its word ───────────────────────────────────────────────────────────────────

-- each number fits its bits
pub record FitsWide (w : Wide) : Type 0 where
  pub step_fits : w.step < 16777216
  pub pins-fit : w.pins < 8
  pub bank-fits : w.bank < 8
  pub a-fits : w.a < 65536
  pub zero-fits : w.zero < 8192

record Levels (w : Wide) : Type 0 where
  reset-small : level w.reset < 2
  cke-small : level w.cke < 2
  first_small : level w.first < 2
  second-small : level w.second < 2
  odt-small : level w.odt < 2

levels : (w : Wide) → Levels w
levels w = record {
  reset-small = level-small w.reset;
  cke-small = level-small w.cke;
  first_small = level-small w.first;
  second-small = level-small w.second;
  odt-small = level-small w.odt;
}

pub packed-small-wide : (w : Wide) → FitsWide w → packed_wide w < 18446744073709551616
unfolding packed_wide
packed-small-wide w f = let l = levels w in omega arith

-- the fields of a word
record PacksWide (n : ℕ) (w : Wide) : Type 0 where
  step_is : n / 1099511627776 % 16777216 ≡ w.step
  reset-is : n / 549755813888 % 2 ≡ level w.reset
  cke-is : n / 274877906944 % 2 ≡ level w.cke
  first-is : n / 137438953472 % 2 ≡ level w.first
  second_is : n / 68719476736 % 2 ≡ level w.second
  odt-is : n / 34359738368 % 2 ≡ level w.odt
  pins-are : n / 4294967296 % 8 ≡ w.pins
  bank-is : n / 536870912 % 8 ≡ w.bank
  a-is : n / 8192 % 65536 ≡ w.a
  zero_is : n / 1 % 8192 ≡ w.zero

packs-wide : (w : Wide) → FitsWide w → PacksWide (packed_wide w) w
unfolding packed_wide
packs-wide w f = let l = levels w in omega arith

one : {m n : ℕ} → m ≡ n → eqb m 1 ≡ eqb n 1
one e = ap (λ (k : ℕ). eqb k 1) e

pub fields-packed-wide : (w : Wide) → FitsWide w → fields_of (packed_wide w) ≡ w
unfolding fields_of
fields-packed-wide w f =
    let p = packs-wide w f in
    λ i.
    record {
      step = p.step_is i;
      reset = (one p.reset-is ∙ told w.reset) i;
      cke = (one p.cke-is ∙ told w.cke) i;
      first = (one p.first-is ∙ told w.first) i;
      second = (one p.second_is ∙ told w.second) i;
      odt = (one p.odt-is ∙ told w.odt) i;
      pins = p.pins-are i;
      bank = p.bank-is i;
      a = p.a-is i;
      zero = p.zero_is i;
    }

parts8 : (w : ℕ) → w < 18446744073709551616
    → w / 1099511627776 % 16777216 * 2 ^ 40 + w / 549755813888 % 2 * 2 ^ 39 + w / 274877906944 % 2 * 2 ^ 38 + w / 137438953472 % 2 * 2 ^ 37
    + w / 68719476736 % 2 * 2 ^ 36 + w / 34359738368 % 2 * 2 ^ 35 + w / 4294967296 % 8 * 2 ^ 32 + w / 536870912 % 8 * 2 ^ 29
    + w / 8192 % 65536 * 2 ^ 13 + w % 8192
    ≡ w
parts8 w small =
    rw (← div-div-eq-div-mul w 549755813888 2, ← div-div-eq-div-mul w 274877906944 2, ← div-div-eq-div-mul w 137438953472 2, ← div-div-eq-div-mul w 68719476736 2, ← div-div-eq-div-mul w 34359738368 2, ← div-div-eq-div-mul w 4294967296 8, ← div-div-eq-div-mul w 536870912 8, ← div-div-eq-div-mul w 8192 65536) (omega arith)

pub packed-fields-wide : (w : ℕ) → w < 18446744073709551616 → packed_wide (fields_of w) ≡ w
unfolding packed_wide fields_of
packed-fields-wide w small =
    rw (bit (w / 549755813888 % 2) (omega arith), bit (w / 274877906944 % 2) (omega arith), bit (w / 137438953472 % 2) (omega arith), bit (w / 68719476736 % 2) (omega arith), bit (w / 34359738368 % 2) (omega arith), div-one) (parts8 w small)

pub wide_fits : (w : ℕ) → FitsWide (fields_of w)
unfolding fields_of
wide_fits w = omega arith

-- ── A word and its bytes ────────────────────────────────────────────────────────────────────

word-bytes8 : (n : ℕ) → n < 18446744073709551616
    → n / 72057594037927936 % 256 * 2 ^ 56 + n / 281474976710656 % 256 * 2 ^ 48 + n / 1099511627776 % 256 * 2 ^ 40
    + n / 4294967296 % 256 * 2 ^ 32 + n / 16777216 % 256 * 2 ^ 24 + n / 65536 % 256 * 2 ^ 16 + n / 256 % 256 * 2 ^ 8 + n % 256
    ≡ n
word-bytes8 n small =
    rw (← div-div-eq-div-mul n 281474976710656 256, ← div-div-eq-div-mul n 1099511627776 256, ← div-div-eq-div-mul n 4294967296 256, ← div-div-eq-div-mul n 16777216 256, ← div-div-eq-div-mul n 65536 256, ← div-div-eq-div-mul n 256 256) (omega arith)

-- what is written is read
pub read8 : (n : ℕ) → n < 18446744073709551616 → wide_at (bytes8 n) 0 ≡ fields_of n
unfolding bytes8 word64
read8 n small = ap fields_of (word-bytes8 n small)

-- and what is read is written
record Bytes8 (n a b c d e f g h : ℕ) : Type 0 where
  b0 : n / 72057594037927936 % 256 ≡ a
  b1 : n / 281474976710656 % 256 ≡ b
  b2 : n / 1099511627776 % 256 ≡ c
  b3 : n / 4294967296 % 256 ≡ d
  b4 : n / 16777216 % 256 ≡ e
  b5 : n / 65536 % 256 ≡ f
  b6 : n / 256 % 256 ≡ g
  b7 : n % 256 ≡ h

module _ (a b c d e f g h : ℕ) (al : a < 256) (bl : b < 256) (cl : c < 256) (dl : d < 256) (el : e < 256) (fl : f < 256) (gl : g < 256) (hl : h < 256) where
  word64-small : word64 a b c d e f g h < 18446744073709551616
  unfolding word64
  word64-small = omega arith

  bytes-of-wide : Bytes8 (word64 a b c d e f g h) a b c d e f g h
  unfolding word64
  bytes-of-wide = omega arith

  bytes8-word : bytes8 (word64 a b c d e f g h) ≡ a ∷ b ∷ c ∷ d ∷ e ∷ f ∷ g ∷ h ∷ []
  unfolding bytes8
  bytes8-word = let p = bytes-of-wide in λ i. p.b0 i ∷ p.b1 i ∷ p.b2 i ∷ p.b3 i ∷ p.b4 i ∷ p.b5 i ∷ p.b6 i ∷ p.b7 i ∷ []

pub written8 : (bs : List ℕ) → length bs ≡ 8 → Bytes bs → bytes8 (packed_wide (wide_at bs 0)) ≡ bs
written8 bs e small =
    ap bytes8 (packed-fields-wide _ (word64-small _ _ _ _ _ _ _ _ (small 0) (small 1) (small 2) (small 3) (small 4) (small 5) (small 6) (small 7)))
    ∙ bytes8-word _ _ _ _ _ _ _ _ (small 0) (small 1) (small 2) (small 3) (small 4) (small 5) (small 6) (small 7)
    ∙ simp (get_or-drop, drop-drop) at (all-in-turn 8 bs e)
