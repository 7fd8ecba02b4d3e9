-- The bit that is named is the lowest, since the tables go up; and a code is allowed exactly where every field of its register is.
-- Assumes nothing.
use Prim.Native.Nat.{ℕ, suc, ◌≤◌, ◌<◌}
use native.Mathlib.Omega.{arith}
use mathlib.Core.Bool.{Bool, true, false, cond, ◌&&◌}
use mathlib.Core.List.{List, [], ◌∷◌}
use mathlib.Core.Path.{◌≡◌, refl, sym, subst, ◌∙◌}
use lib.Dec.{eqb, leb, ltb}
use borrow.Author.Tests.{eqb-true, eqb-false, leb-true, ltb-true, lt-ltb, le-ltb, eq-eqb, ne_eqb}
use Rattle.laws.specs.Among.{Among, first, next}
use Rattle.laws.proofs.Both.{both}
use Rattle.header.specs.declared.Header.{Header}
use Rattle.registers.specs.Allowed.{Field, table0, table1, table2, table3, fields_in, first_bad, first_of, no_bit, bad_bit, bit_of, allowed}
use Rattle.std.specs.Prelude.{Option, None, Some}
use Rattle.registers.specs.Lowest.{Lowest, AllAllowed}

-- the fields' lowest bits, from one on, each above the one before, and none that says "no bit"
unfoldable pub ascends : (from : ℕ) → List Field → Bool
ascends k [] = true
ascends k (f ∷ fs) = leb k f.low && (ltb f.low no_bit && ascends (suc f.low) fs)

pub ascending : (h : Header) (n c : ℕ) → ascends 0 (fields_in h n c) ≡ true
unfolding ascends fields_in table0 table1 table2 table3
ascending h n c = go (eqb n 0) (eqb n 1) (eqb n 2)
  where
    go : (x y z : Bool) → ascends 0 (cond x (table0 h c) (cond y (table1 h c) (cond z (table2 h c) (table3 c)))) ≡ true
    go true y z = refl
    go false true z = refl
    go false false true = refl
    go false false false = refl

-- what a table that ascends tells of its first field and of the rest
parts : (k : ℕ) (f : Field) (fs : List Field) → ascends k (f ∷ fs) ≡ true → (k ≤ f.low) × (f.low < no_bit) × (ascends (suc f.low) fs ≡ true)
unfolding ascends
parts k f fs h =
    let w = both (leb k f.low) (ltb f.low no_bit && ascends (suc f.low) fs) h in
    let v = both (ltb f.low no_bit) (ascends (suc f.low) fs) w.1 in
    (leb-true k f.low w.0, ltb-true f.low no_bit v.0, v.1)

-- a field of a table that ascends has no lower bit than the table begins with, and one that is a bit
above : (k : ℕ) (fs : List Field) → ascends k fs ≡ true → {f : Field} → Among f fs → (k ≤ f.low) × (f.low < no_bit)
above k [] h x = elim x [ ]
above k (f ∷ fs) h first = ((parts k f fs h).0, (parts k f fs h).1)
above k (g ∷ fs) h (next i) =
    let rest = above (suc g.low) fs (parts k g fs h).2 i in
    (omega (arith, (parts k g fs h).0, rest.0), rest.1)

-- no field that is not allowed has a lower bit than the one that is named
pub lowest-named : (k : ℕ) (fs : List Field) → ascends k fs ≡ true → {f : Field} → Among f fs → f.ok ≡ false → first_bad fs ≤ f.low
unfolding first_bad
lowest-named k [] h x bad = elim x [ ]
lowest-named k (f ∷ fs) h first bad = rw bad (omega arith)
lowest-named k (g ∷ fs) h {f} (next i) bad =
    let rest = (parts k g fs h).2 in
    go g.ok (lowest-named (suc g.low) fs rest i bad) (above (suc g.low) fs rest i).0
  where
    go : (x : Bool) → first_bad fs ≤ f.low → g.low < f.low → cond x (first_bad fs) g.low ≤ f.low
    go true l n = l
    go false l n = omega arith

most : (k : ℕ) (fs : List Field) → ascends k fs ≡ true → first_bad fs ≤ no_bit
unfolding first_bad
most k [] h = omega arith
most k (f ∷ fs) h = go f.ok (most (suc f.low) fs (parts k f fs h).2) (parts k f fs h).1
  where
    go : (x : Bool) → first_bad fs ≤ no_bit → f.low < no_bit → cond x (first_bad fs) f.low ≤ no_bit
    go true l n = l
    go false l n = omega arith

-- where a bit is named, it is the lowest
lowest : (k : ℕ) (fs : List Field) → ascends k fs ≡ true → (first_bad fs ≡ no_bit → ⊥) → Lowest fs (first_bad fs)
unfolding first_bad
lowest k [] h some = absurd (some refl)
lowest k (f ∷ fs) h some = go f.ok refl (lowest (suc f.low) fs (parts k f fs h).2)
  where
    least : (g : Field) → Among g (f ∷ fs) → g.ok ≡ false → first_bad (f ∷ fs) ≤ g.low
    least g i z = lowest-named k (f ∷ fs) h i z

    go : (x : Bool) → f.ok ≡ x → ((first_bad fs ≡ no_bit → ⊥) → Lowest fs (first_bad fs)) → Lowest (f ∷ fs) (first_bad (f ∷ fs))
    go true y others =
        let w = others (λ z. some (rw y z)) in
        record { field = w.field; among = next w.among; bad = w.bad; is = rw y w.is; least = least }
    go false z others = record { field = f; among = first; bad = z; is = rw z refl; least = least }

-- the bit that is named, or none, by the number
abbrev pub Told : Option ℕ → ℕ → Type 0
Told None m = m ≡ no_bit
Told (Some b) m = (m ≡ b) × (b < no_bit)

told : (k : ℕ) (fs : List Field) → ascends k fs ≡ true → Told (first_of fs) (first_bad fs)
unfolding first_bad first_of
told k [] h = refl
told k (f ∷ fs) h = go f.ok (told (suc f.low) fs (parts k f fs h).2)
  where
    go : (x : Bool) → Told (first_of fs) (first_bad fs) → Told (cond x (first_of fs) (Some f.low)) (cond x (first_bad fs) f.low)
    go true t = t
    go false t = (refl, (parts k f fs h).1)

module _ (h : Header) (n c : ℕ) where
  -- "16 when the register number is wrong"
  pub no_register_lem : 3 < n → bad_bit h n c ≡ 16
  unfolding bad_bit
  no_register_lem far = rw (lt-ltb 3 n far) refl

  module _ (near : n ≤ 3) where
    in_table : bad_bit h n c ≡ first_bad (fields_in h n c)
    unfolding bad_bit
    in_table = rw (le-ltb 3 n near) refl

    -- a code that is not allowed: its lowest bit
    pub bit-means : allowed h n c ≡ false → Lowest (fields_in h n c) (bad_bit h n c)
    unfolding allowed
    bit-means bad =
        subst (Lowest (fields_in h n c)) (sym in_table) (lowest 0 (fields_in h n c) (ascending h n c) (λ z. eqb-false _ _ bad (in_table ∙ z)))

    -- one that is: every field
    pub allowed-means : allowed h n c ≡ true → AllAllowed (fields_in h n c)
    unfolding allowed
    allowed-means fine f i = go f.ok refl
      where
        go : (x : Bool) → f.ok ≡ x → x ≡ true
        go true y = refl
        go false z = absurd (omega
            (arith, in_table, eqb-true (bad_bit h n c) no_bit fine, lowest-named 0 (fields_in h n c) (ascending h n c) i z, (above 0 (fields_in h n c) (ascending h n c) i).1))

  -- a bit, 16, or no bit
  pub bit-most : bad_bit h n c ≤ no_bit
  unfolding bad_bit
  bit-most = go (ltb 3 n) (most 0 (fields_in h n c) (ascending h n c))
    where
      go : (x : Bool) → first_bad (fields_in h n c) ≤ no_bit → cond x 16 (first_bad (fields_in h n c)) ≤ no_bit
      go true l = omega arith
      go false l = l

  pub bit-told : Told (bit_of h n c) (bad_bit h n c)
  unfolding bad_bit bit_of
  bit-told = go (ltb 3 n) (told 0 (fields_in h n c) (ascending h n c))
    where
      go : (x : Bool) → Told (first_of (fields_in h n c)) (first_bad (fields_in h n c)) → Told (cond x (Some 16) (first_of (fields_in h n c))) (cond x 16 (first_bad (fields_in h n c)))
      go true t = (refl, omega arith)
      go false t = t

  -- no bit is named just where the code is allowed
  pub none-allowed : bit_of h n c ≡ None → allowed h n c ≡ true
  unfolding allowed
  none-allowed none = eq-eqb (bad_bit h n c) no_bit (subst (λ x. Told x (bad_bit h n c)) none bit-told)

  pub some-bad : (b : ℕ) → bit_of h n c ≡ Some b → (allowed h n c ≡ false) × (bad_bit h n c ≡ b)
  unfolding allowed
  some-bad b some =
      let t : Told (Some b) (bad_bit h n c) = subst (λ x. Told x (bad_bit h n c)) some bit-told in
      (ne_eqb (bad_bit h n c) no_bit (λ z. omega (arith, z, t.0, t.1)), t.0)
