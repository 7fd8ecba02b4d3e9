-- The answer of register reading, put together from the answers of its parts; and one answer for each public contract.
-- Assumes nothing.
use Prim.Native.Nat.{ℕ, ◌+◌, ◌*◌, ◌<◌, ◌≤◌}
use mathlib.Core.Bool.{Bool, true, false, cond}
use mathlib.Core.List.{List, [], ◌++◌}
use mathlib.Core.Path.{◌≡◌, refl, sym, ap, subst, ◌∙◌}
use mathlib.Core.Logic.{◌⊎◌, inl, inr, ⊎_elim}
use lib.ListN.{length, drop}
use lib.Seq.{take-length}
use lib.Dec.{eqb, ltb}
use borrow.Author.Tests.{lt-ltb, le-ltb}
use Rattle.laws.specs.Lent.{written}
use Rattle.laws.proofs.Lent.{writes, later-bytes-kept, same_answer}
use Rattle.laws.proofs.Unique.{Unique, one_answer}
use Rattle.header.specs.declared.Header.{Header}
use Rattle.std.specs.Prelude.{Ok, Err}
use Rattle.header.specs.Bytes.{Parsed, parsed_of}
use Rattle.refusals.specs.declared.Refusal.{Refusal}
use Rattle.refusals.specs.Refusals.{number_of}
use Rattle.registers.specs.declared.BadBit.{BadBit}
use Rattle.registers.specs.Allowed.{bad_bit, allowed}
use Rattle.registers.specs.Reading.{Decoded, values, values0, values1, values2, values_of, bad, decoded_of, Answer, refusal, answer_of, read_under, read_of}
use Rattle.registers.specs.Promises.{Decode, Gives, Read}

-- a refusal writes nothing, whatever its number
nothing : (k : ℕ) (before : List ℕ) → Gives (refusal k) before k before
unfolding written
nothing k before = record { result = refl; out = go (eqb k 0) }
  where
    go : (x : Bool) → before ≡ cond x before before
    go true = refl
    go false = refl

-- the values of a code are six
six : (n c : ℕ) → length (values_of n c) ≡ 6
unfolding values_of values0 values1 values2
six n c = go (eqb n 0) (eqb n 1) (eqb n 2)
  where
    go : (x y z : Bool) → length (cond x (values0 c) (cond y (values1 c) (cond z (values2 c) (values 0 0 0 0 0 0)))) ≡ 6
    go true y z = refl
    go false true z = refl
    go false false true = refl
    go false false false = refl

pub ok-six : (h : Header) (n c : ℕ) (v : List ℕ) → Ok v ≡ decoded_of h n c → length v ≡ 6
unfolding decoded_of
ok-six h n c v = go (allowed h n c)
  where
    go : (x : Bool) → Ok v ≡ cond x (Ok (values_of n c)) (Err (bad (bad_bit h n c))) → length v ≡ 6
    go true e = let is : v ≡ values_of n c = cc in ap length is ∙ six n c
    go false e = cc

module _ (d : Decoded) where
  pub puts-values : (v before after : List ℕ) → length v ≡ 6 → d ≡ Ok v → after ≡ v ++ drop 6 before → Gives (answer_of d) before 0 after
  puts-values v before after six is copied =
      subst (λ x. Gives (answer_of x) before 0 after) (sym is)
      (writes _ _ _ v after refl refl (copied ∙ (λ i. sym (take-length v) i ++ drop (sym six i) before)))

  pub puts-bit : (b : BadBit) (before : List ℕ) → d ≡ Err b → Gives (answer_of d) before (11 + 256 * b.bit) before
  puts-bit b before is = subst (λ x. Gives (answer_of x) before (11 + 256 * b.bit) before) (sym is) (nothing (11 + 256 * b.bit) before)

module _ (hd : List ℕ) (n c : ℕ) (before : List ℕ) where
  pub short : length before < 6 → Read hd n c before 9 before
  unfolding read_of
  short h = rw (lt-ltb _ _ h) (nothing 9 before)

  module _ (long : 6 ≤ length before) where
    -- room enough: the header decides
    long-is : read_of hd n c (length before) ≡ read_under (parsed_of 1 hd) n c
    unfolding read_of
    long-is = rw (le-ltb _ _ long) refl

    by : (x : Parsed) (r : ℕ) (after : List ℕ) → x ≡ parsed_of 1 hd → Gives (read_under x n c) before r after → Read hd n c before r after
    by x r after is w = subst (λ a. Gives a before r after) (sym long-is) (subst (λ p. Gives (read_under p n c) before r after) is w)

    pub taken : (p : Parsed) (h : Header) (d : Decoded) {r : ℕ} {after : List ℕ} → p ≡ parsed_of 1 hd → p ≡ Ok h → d ≡ decoded_of h n c
        → Gives (answer_of d) before r after → Read hd n c before r after
    taken p h d {r} {after} is t e w = by (Ok h) r after (sym t ∙ is) (subst (λ x. Gives (answer_of x) before r after) e w)

    pub refused : (p : Parsed) (k : Refusal) → p ≡ parsed_of 1 hd → p ≡ Err k → Read hd n c before (number_of k) before
    refused p k is t = by (Err k) (number_of k) before (sym t ∙ is) (nothing (number_of k) before)

-- ── The bytes behind the six ────────────────────────────────────────────────────────────────

-- six bytes, or none
six-or-none : (h : Header) (n c : ℕ) → (length (answer_of (decoded_of h n c)).bytes ≡ 6) ⊎ ((answer_of (decoded_of h n c)).bytes ≡ [])
unfolding decoded_of
six-or-none h n c = go (allowed h n c)
  where
    one : Bool → Decoded
    one x = cond x (Ok (values_of n c)) (Err (bad (bad_bit h n c)))

    go : (x : Bool) → (length (answer_of (one x)).bytes ≡ 6) ⊎ ((answer_of (one x)).bytes ≡ [])
    go true = inl (six n c)
    go false = inr refl

under-six-or-none : (p : Parsed) (n c : ℕ) → (length (read_under p n c).bytes ≡ 6) ⊎ ((read_under p n c).bytes ≡ [])
under-six-or-none (Ok h) n c = six-or-none h n c
under-six-or-none (Err k) n c = inr refl

read-six-or-none : (hd : List ℕ) (n c room : ℕ) → (length (read_of hd n c room).bytes ≡ 6) ⊎ ((read_of hd n c room).bytes ≡ [])
unfolding read_of
read-six-or-none hd n c room = go (ltb room 6) (under-six-or-none (parsed_of 1 hd) n c)
  where
    one : Bool → Answer
    one x = cond x (refusal 9) (read_under (parsed_of 1 hd) n c)

    go : (x : Bool) → (length (read_under (parsed_of 1 hd) n c).bytes ≡ 6) ⊎ ((read_under (parsed_of 1 hd) n c).bytes ≡ []) → (length (one x).bytes ≡ 6) ⊎ ((one x).bytes ≡ [])
    go true w = inr refl
    go false w = w

-- whether or not it is refused
pub later-kept : (hd : List ℕ) (n c : ℕ) (before : List ℕ) (r : ℕ) (after : List ℕ) → Read hd n c before r after → drop 6 after ≡ drop 6 before
later-kept hd n c before r after w = ⊎_elim
    (λ six. subst (λ k. drop k after ≡ drop k before) six (later-bytes-kept _ _ _ r after w))
    (λ none. ap (drop 6) (subst (λ k. drop k after ≡ drop k before) (ap length none) (later-bytes-kept _ _ _ r after w)))
    (read-six-or-none hd n c (length before))

-- one answer for each public contract
pub decode-unique : (h : Header) (n c : ℕ) → Unique (Decode h n c)
decode-unique h n c = one_answer (decoded_of h n c)

pub read-unique :
    (hd : List ℕ) (n c : ℕ) (before : List ℕ) {r r' : ℕ} {after after' : List ℕ} → Read hd n c before r after → Read hd n c before r' after'
    → (r ≡ r') × (after ≡ after')
read-unique hd n c before one other = same_answer one other
