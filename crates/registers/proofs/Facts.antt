-- What callers use of a code that is allowed, and of one that is not.
-- Assumes nothing.
use Prim.Native.Nat.{ℕ, ◌<◌}
use native.Mathlib.Omega.{arith}
use mathlib.Core.Bool.{Bool, true, false, cond}
use mathlib.Core.Path.{◌≡◌, refl, sym, ap, ◌∙◌}
use lib.Dec.{leb, ltb}
use borrow.Author.Tests.{eqb-true, ltb-true, ltb-false}
use Rattle.laws.specs.Among.{first, next}
use Rattle.header.specs.declared.Header.{Header}
use Rattle.header.specs.Counts.{t_wr}
use Rattle.codes.specs.Codes.{cl, wr}
use Rattle.registers.specs.Allowed.{cl_fits, table0, fields_in, no_bit, bad_bit, allowed}
use Rattle.std.specs.Prelude.{List}
use Rattle.std.specs.Prelude.{Ok, Err, is_ok}
use Rattle.registers.specs.declared.BadBit.{BadBit}
use Rattle.registers.specs.Reading.{Decoded, bad, values_of, decoded_of}
use Rattle.registers.proofs.Lowest.{no_register_lem, allowed-means}

module _ (h : Header) where
  -- "BA below 4"
  pub allowed-below : (n c : ℕ) → allowed h n c ≡ true → n < 4
  unfolding allowed
  allowed-below n c y = go (ltb 3 n) refl
    where
      go : (x : Bool) → ltb 3 n ≡ x → n < 4
      go true far = absurd (omega (arith, eqb-true (bad_bit h n c) no_bit y, no_register_lem h n c (ltb-true 3 n far)))
      go false near = omega (arith, ltb-false 3 n near)

  -- MR0's latency fits the period and the bin, and its write recovery lasts t_wr
  pub allowed0 : (c : ℕ) → allowed h 0 c ≡ true → (cl_fits h (cl c) ≡ true) × (leb (t_wr h).clocks (wr c) ≡ true)
  unfolding fields_in table0
  allowed0 c y = let all = allowed-means h 0 c (omega arith) y in (all _ (next first), all _ (next (next (next first))))

  -- ── The answer taken apart ──────────────────────────────────────────────────────────────────

  module _ (n c : ℕ) (d : Decoded) (is : d ≡ decoded_of h n c) where
    pub as-allowed : (v : List ℕ) → d ≡ Ok v → allowed h n c ≡ true
    unfolding decoded_of
    as-allowed v t = go (allowed h n c) (sym t ∙ is)
      where
        go : (x : Bool) → Ok v ≡ cond x (Ok (values_of n c)) (Err (bad (bad_bit h n c))) → x ≡ true
        go true e = refl
        go false e = cc

    pub as-bit : (b : BadBit) → d ≡ Err b → (allowed h n c ≡ false) × (b.bit ≡ bad_bit h n c)
    unfolding decoded_of
    as-bit b t = go (allowed h n c) (sym t ∙ is)
      where
        go : (x : Bool) → Err b ≡ cond x (Ok (values_of n c)) (Err (bad (bad_bit h n c))) → (x ≡ false) × (b.bit ≡ bad_bit h n c)
        go true e = (cc, cc)
        go false e = (refl, cc)

    pub ok-allowed : is_ok d ≡ true → allowed h n c ≡ true
    unfolding decoded_of
    ok-allowed y = go (allowed h n c) (ap is_ok (sym is) ∙ y)
      where
        go : (x : Bool) → is_ok (cond x (Ok (values_of n c)) (Err (bad (bad_bit h n c)))) ≡ true → x ≡ true
        go true e = refl
        go false e = e
