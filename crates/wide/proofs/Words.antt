-- A record of edition 1 and its word, a word and its bytes: each tells the other.
-- Assumes nothing.
use Prim.Native.Nat.{ℕ, zero, suc, ◌+◌, ◌*◌, ◌/◌, ◌%◌, ◌^◌, ◌<◌}
use native.Mathlib.Nat.{div-div-eq-div-mul}
use native.Mathlib.Omega.{arith}
use mathlib.Core.Bool.{Bool, true, false}
use mathlib.Core.List.{List, [], ◌∷◌}
use mathlib.Core.Path.{◌≡◌, refl, sym, ap, ◌∙◌}
use lib.Dec.{eqb}
use lib.ListN.{length, get_or, drop}
use lib.Seq.{get_or-drop, drop-drop}
use borrow.Author.Tests.{eqb-true, eqb-false}
use Rattle.bits.specs.Bits.{word48}
use Rattle.records.specs.declared.Record.{Record}
use Rattle.records.specs.Record as old
use Rattle.wide.specs.Spread.{Bytes}
use Rattle.wide.specs.Wide.{level}
use Rattle.wide.specs.Moved.{packed, bytes6}

-- ── A bit and a level ───────────────────────────────────────────────────────────────────────

pub bit : (n : ℕ) → n < 2 → level (eqb n 1) ≡ n
bit n small = go (eqb n 1) refl
  where
    go : (x : Bool) → eqb n 1 ≡ x → level x ≡ n
    go true e = sym (eqb-true n 1 e)
    go false e = omega (arith, eqb-false n 1 e)

pub told : (b : Bool) → eqb (level b) 1 ≡ b
told true = refl
told false = refl

pub level-small : (b : Bool) → level b < 2
level-small true = omega arith
level-small false = omega arith

-- ── A record and its word ───────────────────────────────────────────────────────────────────

-- each number fits its bits
pub record Fits (r : Record) : Type 0 where
  pub step_fits : r.step < 16777216
  pub pins-fit : r.pins < 16
  pub bank-fits : r.bank < 8
  pub a-fits : r.a < 65536

pub packed-small : (r : Record) → Fits r → packed r < 281474976710656
unfolding packed
packed-small r f = let c = level-small r.cke in omega arith

-- the fields of a word
record Packs (n : ℕ) (r : Record) : Type 0 where
  step_is : n / 16777216 % 16777216 ≡ r.step
  cke-is : n / 8388608 % 2 ≡ level r.cke
  pins-are : n / 524288 % 16 ≡ r.pins
  bank-is : n / 65536 % 8 ≡ r.bank
  a-is : n / 1 % 65536 ≡ r.a

packs : (r : Record) → Fits r → Packs (packed r) r
unfolding packed
packs r f = let c = level-small r.cke in omega arith

pub fields-packed : (r : Record) → Fits r → old.fields_of (packed r) ≡ r
unfolding old.fields_of
fields-packed r f =
    let p = packs r f in
    λ i. record { step = p.step_is i; cke = (ap (λ (n : ℕ). eqb n 1) p.cke-is ∙ told r.cke) i; pins = p.pins-are i; bank = p.bank-is i; a = p.a-is i }

parts6 : (w : ℕ) → w < 281474976710656
    → w / 16777216 % 16777216 * 2 ^ 24 + w / 8388608 % 2 * 2 ^ 23 + w / 524288 % 16 * 2 ^ 19 + w / 65536 % 8 * 2 ^ 16 + w / 1 % 65536 ≡ w
parts6 w small =
    rw (← div-div-eq-div-mul w 8388608 2, ← div-div-eq-div-mul w 524288 16, ← div-div-eq-div-mul w 65536 8) (omega arith)

pub packed-fields : (w : ℕ) → w < 281474976710656 → packed (old.fields_of w) ≡ w
unfolding packed old.fields_of
packed-fields w small = rw (bit (w / 8388608 % 2) (omega arith)) (parts6 w small)

pub narrow-fits : (w : ℕ) → Fits (old.fields_of w)
unfolding old.fields_of
narrow-fits w = omega arith

-- ── A word and its bytes ────────────────────────────────────────────────────────────────────

word-bytes6 : (n : ℕ) → n < 281474976710656
    → n / 1099511627776 % 256 * 2 ^ 40 + n / 4294967296 % 256 * 2 ^ 32 + n / 16777216 % 256 * 2 ^ 24 + n / 65536 % 256 * 2 ^ 16 + n / 256 % 256 * 2 ^ 8
    + n % 256
    ≡ n
word-bytes6 n small =
    rw (← div-div-eq-div-mul n 4294967296 256, ← div-div-eq-div-mul n 16777216 256, ← div-div-eq-div-mul n 65536 256, ← div-div-eq-div-mul n 256 256)
    (omega arith)

-- what is written is read
pub read6 : (n : ℕ) → n < 281474976710656 → old.record_at (bytes6 n) 0 ≡ old.fields_of n
unfolding bytes6 word48
read6 n small = ap old.fields_of (word-bytes6 n small)

-- and what is read is written
record Bytes6 (n a b c d e f : ℕ) : Type 0 where
  b0 : n / 1099511627776 % 256 ≡ a
  b1 : n / 4294967296 % 256 ≡ b
  b2 : n / 16777216 % 256 ≡ c
  b3 : n / 65536 % 256 ≡ d
  b4 : n / 256 % 256 ≡ e
  b5 : n % 256 ≡ f

module _ (a b c d e f : ℕ) (al : a < 256) (bl : b < 256) (cl : c < 256) (dl : d < 256) (el : e < 256) (fl : f < 256) where
  word48-small : word48 a b c d e f < 281474976710656
  unfolding word48
  word48-small = omega arith

  bytes_of : Bytes6 (word48 a b c d e f) a b c d e f
  unfolding word48
  bytes_of = omega arith

  pub bytes6-word : bytes6 (word48 a b c d e f) ≡ a ∷ b ∷ c ∷ d ∷ e ∷ f ∷ []
  unfolding bytes6
  bytes6-word = let p = bytes_of in λ i. p.b0 i ∷ p.b1 i ∷ p.b2 i ∷ p.b3 i ∷ p.b4 i ∷ p.b5 i ∷ []

-- so many bytes, one by one
abbrev pub in_turn : (count : ℕ) → List ℕ → List ℕ
in_turn zero bs = []
in_turn (suc n) bs = get_or bs 0 0 ∷ in_turn n (drop 1 bs)

pub all-in-turn : (n : ℕ) (bs : List ℕ) → length bs ≡ n → in_turn n bs ≡ bs
all-in-turn zero [] e = refl
all-in-turn zero (b ∷ bs) e = absurd (omega arith)
all-in-turn (suc n) [] e = absurd (omega arith)
all-in-turn (suc n) (b ∷ bs) e = ap (λ cs. b ∷ cs) (all-in-turn n bs (omega arith))

pub written6 : (bs : List ℕ) → length bs ≡ 6 → Bytes bs → bytes6 (packed (old.record_at bs 0)) ≡ bs
written6 bs e small =
    ap bytes6 (packed-fields _ (word48-small _ _ _ _ _ _ (small 0) (small 1) (small 2) (small 3) (small 4) (small 5)))
    ∙ bytes6-word _ _ _ _ _ _ (small 0) (small 1) (small 2) (small 3) (small 4) (small 5)
    ∙ simp (get_or-drop, drop-drop) at (all-in-turn 6 bs e)
