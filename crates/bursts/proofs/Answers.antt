-- What a call answers, by the way that it takes through the code; and one answer for each call.
-- Assumes nothing.
use Prim.Native.Nat.{ℕ, zero, suc, ◌%◌, ◌<◌, ◌≤◌}
use native.Mathlib.Omega.{arith}
use mathlib.Core.Path.{◌≡◌, refl, ap, ◌∙◌}
use mathlib.Core.Bool.{true, or-true}
use mathlib.Core.List.{List, ◌++◌}
use borrow.Author.Tests.{lt-ltb, le-ltb, ne_eqb}
use lib.Bits.{bit_xor, xor_lt}
use lib.Dec.{ltb}
use lib.ListN.{length, take, drop}
use Rattle.laws.proofs.Lent.{refuses, writes, same_answer}
use Rattle.bursts.specs.Burst.{word_of, words_from, order_of, gives10, code_of, Ordered}
use Rattle.bursts.specs.Parts.{Put}

-- the xor of two bits is a bit
pub bits-differ : (a b : ℕ) → bit_xor (a % 2) (b % 2) < 2
bits-differ a b = xor_lt 1 (a % 2) (b % 2) (omega arith) (omega arith)

length-words : (word : ℕ → ℕ) (i n : ℕ) → length (words_from word i n) ≡ n
length-words word i zero = refl
length-words word i (suc n) = ap suc (length-words word (suc i) n)

pub length-order : (n start kind direction : ℕ) → length (order_of n start kind direction) ≡ n
unfolding order_of
length-order n start kind direction = length-words _ 0 n

module _ {words before : List ℕ} where
  pub too_short : length before < length words → Put words before 9 before
  too_short h = refuses _ _ _ 9 (rw (lt-ltb _ _ h)) (λ z. omega arith)

  pub copied : {after : List ℕ} → length words ≤ length before → after ≡ take (length words) words ++ drop (length words) before
      → Put words before 0 after
  copied h e = writes _ _ _ words _ (rw (le-ltb _ _ h)) refl e

module _ (n start kind direction : ℕ) (before : List ℕ) where
  refused-by-10 : gives10 n start ≡ true → Ordered n start kind direction before 10 before
  unfolding code_of
  refused-by-10 h = refuses _ _ _ 10 (rw h) (λ z. omega arith)

  pub start-above-7 : 7 < start → Ordered n start kind direction before 10 before
  unfolding gives10
  start-above-7 h = refused-by-10 (simp (lt-ltb _ _ h, or-true))

  pub length-unknown : (n ≡ 8 → ⊥) → (n ≡ 4 → ⊥) → Ordered n start kind direction before 10 before
  unfolding gives10
  length-unknown h8 h4 = refused-by-10 (simp (ne_eqb _ _ h8, ne_eqb _ _ h4))

  -- a burst of a known length m, whose words are put into the buffer
  pub put-words : {words after : List ℕ} {r : ℕ} (m : ℕ) → n ≡ m → gives10 m start ≡ ltb 7 start → start ≤ 7
      → words ≡ words_from (word_of n start kind direction) 0 m → Put words before r after → Ordered n start kind direction before r after
  unfolding code_of order_of
  put-words {words} m i known h e p =
      let all : words ≡ order_of m start kind direction = e ∙ rw i in
      let fits : length words ≡ m = ap length all ∙ length-order m start kind direction in
      rw (i, known ∙ le-ltb 7 start h, ← all, ← fits) p

pub order-unique :
    (n start kind direction : ℕ) {before after after' : List ℕ} {r r' : ℕ} → Ordered n start kind direction before r after
    → Ordered n start kind direction before r' after' → (r ≡ r') × (after ≡ after')
order-unique n start kind direction one other = same_answer one other
