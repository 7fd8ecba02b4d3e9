-- Where judging refuses a header with 2: its first four bits are neither 1 nor 2.
-- Assumes nothing.
use Prim.Native.Nat.{ℕ, ◌/◌, ◌<◌}
use native.Mathlib.Omega.{arith}
use mathlib.Core.Bool.{Bool, true, false, cond, ◌&&◌, ◌||◌}
use mathlib.Core.List.{List}
use mathlib.Core.Logic.{◌↔◌}
use mathlib.Core.Path.{◌≡◌, refl, sym, ◌∙◌}
use lib.Dec.{eqb, ltb}
use lib.ListN.{length, take, get_or}
use lib.Seq.{get_or-take}
use borrow.Author.Tests.{eqb-true, eq-eqb, ne_eqb}
use Rattle.bits.specs.Bits.{word48}
use Rattle.header.specs.Bins.{bin_of}
use Rattle.header.specs.Bytes.{header_word, edition, bin, zero_a, zero_b, period, edition_for, fields_refusal, header_refusal}

-- ── The edition of a word ───────────────────────────────────────────────────────────────────

-- 2 exactly where it is not the one asked for
pub asked-edition : (e w : ℕ) → (fields_refusal e w ≡ 2 → ⊥) → edition w ≡ e
unfolding fields_refusal
asked-edition e w h = go (eqb (edition w) e) _ refl h
  where
    go : (x : Bool) (n : ℕ) → eqb (edition w) e ≡ x → (cond x n 2 ≡ 2 → ⊥) → edition w ≡ e
    go true n y z = eqb-true (edition w) e y
    go false n y z = absurd (z refl)

pub asked-another : (e w : ℕ) → fields_refusal e w ≡ 2 → edition w ≡ e → ⊥
unfolding fields_refusal
asked-another e w h is =
    go (eqb (zero_a w) 0 && eqb (zero_b w) 0) (ltb (period w) (bin_of (bin w)).least || ltb 3300 (period w)) refl refl
  where
    go : (x y : Bool) → eqb (zero_a w) 0 && eqb (zero_b w) 0 ≡ x → ltb (period w) (bin_of (bin w)).least || ltb 3300 (period w) ≡ y → ⊥
    go true true p q = omega (arith, simp (eq-eqb (edition w) e is, p, q) at h)
    go true false p q = omega (arith, simp (eq-eqb (edition w) e is, p, q) at h)
    go false true p q = omega (arith, simp (eq-eqb (edition w) e is, p, q) at h)
    go false false p q = omega (arith, simp (eq-eqb (edition w) e is, p, q) at h)

-- ── The first byte ──────────────────────────────────────────────────────────────────────────

first-four : (a b c d e f : ℕ) → a < 256 → b < 256 → c < 256 → d < 256 → e < 256 → f < 256 → edition (word48 a b c d e f) ≡ a / 16
unfolding word48
first-four a b c d e f al bl cl dl el fl = omega arith

pub first-bits : (bs : List ℕ) → ((i : ℕ) → get_or bs i 0 < 256) → edition (header_word bs) ≡ get_or bs 0 0 / 16
unfolding header_word
first-bits bs small = first-four _ _ _ _ _ _ (small 0) (small 1) (small 2) (small 3) (small 4) (small 5)

-- what stands behind the header does not matter
pub word-front : (bs : List ℕ) → header_word (take 6 bs) ≡ header_word bs
unfolding header_word
word-front bs =
    rw (get_or-take 6 bs 0 0 (omega arith), get_or-take 6 bs 1 0 (omega arith), get_or-take 6 bs 2 0 (omega arith), get_or-take 6 bs 3 0 (omega arith), get_or-take 6 bs 4 0 (omega arith), get_or-take 6 bs 5 0 (omega arith))

-- ── Six bytes ───────────────────────────────────────────────────────────────────────────────

module _ (bs : List ℕ) (six : length bs ≡ 6) (small : (i : ℕ) → get_or bs i 0 < 256) where
  by-fields : header_refusal (edition_for bs) bs ≡ fields_refusal (edition_for bs) (header_word bs)
  unfolding header_refusal
  by-fields = rw (eq-eqb (length bs) 6 six)

  asks_two : get_or bs 0 0 / 16 ≡ 2 → edition_for bs ≡ 2
  unfolding edition_for
  asks_two e = rw (eq-eqb _ _ e)

  asks-one : (get_or bs 0 0 / 16 ≡ 2 → ⊥) → edition_for bs ≡ 1
  unfolding edition_for
  asks-one e = rw (ne_eqb _ _ e)

  another : header_refusal (edition_for bs) bs ≡ 2 → get_or bs 0 0 / 16 ≡ edition_for bs → ⊥
  another h e = asked-another (edition_for bs) (header_word bs) (sym by-fields ∙ h) (first-bits bs small ∙ e)

  refused-neither : header_refusal (edition_for bs) bs ≡ 2 → (get_or bs 0 0 / 16 ≡ 1 → ⊥) × (get_or bs 0 0 / 16 ≡ 2 → ⊥)
  refused-neither h =
      (λ one. another h (one ∙ sym (asks-one (λ two. absurd (omega (arith, one, two))))), λ two. another h (two ∙ sym (asks_two two)))

  neither-refused : (get_or bs 0 0 / 16 ≡ 1 → ⊥) × (get_or bs 0 0 / 16 ≡ 2 → ⊥) → header_refusal (edition_for bs) bs ≡ 2
  unfolding fields_refusal
  neither-refused n = by-fields ∙ rw (ne_eqb (edition (header_word bs)) (edition_for bs) (λ is. n.0 (sym (first-bits bs small) ∙ is ∙ asks-one n.1)))

  pub two-means : (header_refusal (edition_for bs) bs ≡ 2) ↔ ((get_or bs 0 0 / 16 ≡ 1 → ⊥) × (get_or bs 0 0 / 16 ≡ 2 → ⊥))
  two-means = (refused-neither, neither-refused)
