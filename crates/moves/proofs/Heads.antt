-- The header of another edition: it is the same but for its first four bits, it is not refused there, and the way back is the way it came.
-- Assumes nothing.
use Rattle.std.proofs.Common.{◌≡◌, ℕ, ◌+◌, ◌*◌, ◌/◌, ◌%◌, ◌^◌, ◌<◌, ◌≤◌, cond, ◌&&◌, ◌||◌, eqb, ltb, List, [], ◌∷◌, ◌++◌, length, get_or, take, sym, ap, ◌∙◌, arith, length-take-le, get_or-drop, get_or-take, drop-drop, eq-eqb}
use Rattle.bits.specs.Bits.{word48, field}
use Rattle.header.specs.Bins.{bin_of}
use Rattle.header.specs.Bytes.{header_refusal, header_word, header_of, fields_refusal, edition, bin, zero_a, zero_b, period}
use Rattle.header.proofs.Edition as header
use Rattle.wide.specs.Spread.{Bytes}
use Rattle.wide.proofs.Words.{all-in-turn}
use Rattle.moves.specs.Moves.{headed, opening}
use Rattle.moves.proofs.Going.{opened}

edition-is : (v e : ℕ) → v < 17592186044416 → e < 16 → edition (v + e * 17592186044416) ≡ e
edition-is v e small l = omega arith

-- two words that differ in the first four bits only
module _ (v p q : ℕ) (small : v < 17592186044416) where
  bin_same : bin (v + p * 17592186044416) ≡ bin (v + q * 17592186044416)
  bin_same = omega arith

  zero_a-same : zero_a (v + p * 17592186044416) ≡ zero_a (v + q * 17592186044416)
  zero_a-same = omega arith

  zero_b-same : zero_b (v + p * 17592186044416) ≡ zero_b (v + q * 17592186044416)
  zero_b-same = omega arith

  period-same : period (v + p * 17592186044416) ≡ period (v + q * 17592186044416)
  period-same = omega arith

  -- all but the edition
  header-parts : header_of (v + p * 17592186044416) ≡ header_of (v + q * 17592186044416)
  header-parts = λ i. record {
    bin = bin_same i;
    dense = eqb (one_same i) 1;
    wide = eqb (two-same i) 1;
    hot = eqb (three-same i) 1;
    period = record { ps = period-same i };
  }
    where
      one_same : field (v + p * 17592186044416) 6 1 ≡ field (v + q * 17592186044416) 6 1
      one_same = omega arith

      two-same : field (v + p * 17592186044416) 7 1 ≡ field (v + q * 17592186044416) 7 1
      two-same = omega arith

      three-same : field (v + p * 17592186044416) 8 1 ≡ field (v + q * 17592186044416) 8 1
      three-same = omega arith

  fields-same : p < 16 → q < 16 → fields_refusal p (v + p * 17592186044416) ≡ fields_refusal q (v + q * 17592186044416)
  unfolding fields_refusal
  fields-same pl ql = λ i.
      cond (asked i)
      (cond (eqb (zero_a-same i) 0 && eqb (zero_b-same i) 0)
      (cond (ltb (period-same i) (bin_of (bin_same i)).least || ltb 3300 (period-same i)) 4 0)
      3)
      2
    where
      asked : eqb (edition (v + p * 17592186044416)) p ≡ eqb (edition (v + q * 17592186044416)) q
      asked = eq-eqb _ _ (edition-is v p small pl) ∙ sym (eq-eqb _ _ (edition-is v q small ql))

-- the word of the header without its first four bits, and with them
abbrev lower : (a b c d e f : ℕ) → ℕ
lower a b c d e f = a % 16 * 2 ^ 40 + b * 2 ^ 32 + c * 2 ^ 24 + d * 2 ^ 16 + e * 2 ^ 8 + f

module _ (a b c d e f : ℕ) (bl : b < 256) (cl : c < 256) (dl : d < 256) (el : e < 256) (fl : f < 256) where
  lower-small : lower a b c d e f < 17592186044416
  lower-small = omega arith

  word-is : word48 a b c d e f ≡ lower a b c d e f + a / 16 * 17592186044416
  unfolding word48
  word-is = omega arith

  word-headed : (g : ℕ) → word48 (g * 16 + a % 16) b c d e f ≡ lower a b c d e f + g * 17592186044416
  unfolding word48
  word-headed g = omega arith

-- ── A header that is not refused ────────────────────────────────────────────────────────────

first-six : (bs : List ℕ) → 6 ≤ length bs
    → get_or bs 0 0 ∷ get_or bs 1 0 ∷ get_or bs 2 0 ∷ get_or bs 3 0 ∷ get_or bs 4 0 ∷ get_or bs 5 0 ∷ [] ≡ take 6 bs
first-six bs enough =
    sym (rw (get_or-take 6 bs 0 0 (omega arith), get_or-take 6 bs 1 0 (omega arith), get_or-take 6 bs 2 0 (omega arith), get_or-take 6 bs 3 0 (omega arith), get_or-take 6 bs 4 0 (omega arith), get_or-take 6 bs 5 0 (omega arith)))
    ∙ simp (get_or-drop, drop-drop) at (all-in-turn 6 (take 6 bs) (length-take-le 6 bs enough))

abbrev low : List ℕ → ℕ
low bs = lower (get_or bs 0 0) (get_or bs 1 0) (get_or bs 2 0) (get_or bs 3 0) (get_or bs 4 0) (get_or bs 5 0)

module _ (e : ℕ) (bs : List ℕ) (small : Bytes bs) (o : opening e bs ≡ 0) where
  low_small : low bs < 17592186044416
  low_small = lower-small (get_or bs 0 0) (get_or bs 1 0) (get_or bs 2 0) (get_or bs 3 0) (get_or bs 4 0) (get_or bs 5 0) (small 1) (small 2) (small 3) (small 4) (small 5)

  header-word : header_word (take 6 bs) ≡ low bs + get_or bs 0 0 / 16 * 17592186044416
  unfolding header_word
  header-word =
      header.word-front bs
      ∙ word-is (get_or bs 0 0) (get_or bs 1 0) (get_or bs 2 0) (get_or bs 3 0) (get_or bs 4 0) (get_or bs 5 0) (small 1) (small 2) (small 3) (small 4) (small 5)

  pub first-bits : get_or bs 0 0 / 16 ≡ e
  first-bits =
      sym (header.first-bits bs small) ∙ ap edition (sym (header.word-front bs))
      ∙ header.asked-edition e (header_word (take 6 bs)) (λ two. omega (arith, two, (opened e bs o).1))

  pub headed-again : (f : ℕ) (ys : List ℕ) → headed e (headed f bs ++ ys) ≡ take 6 bs
  unfolding headed
  headed-again f ys =
      let same : e * 16 + (f * 16 + get_or bs 0 0 % 16) % 16 ≡ get_or bs 0 0 = omega (arith, first-bits) in
      ap (λ (b : ℕ). b ∷ get_or bs 1 0 ∷ get_or bs 2 0 ∷ get_or bs 3 0 ∷ get_or bs 4 0 ∷ get_or bs 5 0 ∷ []) same ∙ first-six bs (opened e bs o).0

  -- the part is the same
  pub header-moved : (f : ℕ) (ys : List ℕ) → header_of (header_word (take 6 (headed f bs ++ ys))) ≡ header_of (header_word (take 6 bs))
  unfolding headed header_word
  header-moved f ys =
      ap header_of (word-headed (get_or bs 0 0) (get_or bs 1 0) (get_or bs 2 0) (get_or bs 3 0) (get_or bs 4 0) (get_or bs 5 0) (small 1) (small 2) (small 3) (small 4) (small 5) f)
      ∙ header-parts (low bs) f (get_or bs 0 0 / 16) low_small ∙ ap header_of (sym header-word)

  pub opens-moved : (f : ℕ) (ys : List ℕ) → e < 16 → f < 16 → opening f (headed f bs ++ ys) ≡ 0
  unfolding headed header_refusal header_word
  opens-moved f ys el fl =
      ap (fields_refusal f) (word-headed (get_or bs 0 0) (get_or bs 1 0) (get_or bs 2 0) (get_or bs 3 0) (get_or bs 4 0) (get_or bs 5 0) (small 1) (small 2) (small 3) (small 4) (small 5) f)
      ∙ fields-same (low bs) f e low_small fl el
      ∙ ap (fields_refusal e) (ap (λ (n : ℕ). low bs + n * 17592186044416) (sym first-bits) ∙ sym header-word) ∙ (opened e bs o).1
