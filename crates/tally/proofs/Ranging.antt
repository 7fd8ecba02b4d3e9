-- The range of a tally's counts: the test, one count after the other, and what it tells.
-- Assumes nothing.
use Rattle.std.proofs.Common.{◌≡◌, ℕ, zero, suc, ◌<◌, ◌≤◌, Bool, true, false, cond, ltb, List, [], ◌∷◌, ◌↔◌, IsTrue, EachIndex, slice_index, length, get_or, refl, arith, ltb-false, le-ltb}
use Rattle.rules.proofs.Events.{never}
use Rattle.tally.specs.Tally.{largest, in_range}

-- what the test tells of each count
pub range_at : (ns : List ℕ) → in_range ns ≡ true → (k : ℕ) → get_or ns k 0 ≤ largest
range_at [] h k = omega arith
range_at (n ∷ ns) h k = go (ltb largest n) refl h (range_at ns) k
  where
    go : (x : Bool) → ltb largest n ≡ x → cond x false (in_range ns) ≡ true → (in_range ns ≡ true → (k : ℕ) → get_or ns k 0 ≤ largest) → (k : ℕ)
        → get_or (n ∷ ns) k 0 ≤ largest
    go true e z rest k = never z refl
    go false e z rest zero = ltb-false largest n e
    go false e z rest (suc k) = rest z k

-- and the other way round
within : (ns : List ℕ) → ((k : ℕ) → k < length ns → get_or ns k 0 ≤ largest) → in_range ns ≡ true
within [] h = refl
within (n ∷ ns) h = rw (le-ltb largest n (h 0 (omega arith))) (within ns (λ k l. h (suc k) (omega (arith, l))))

pub in-range : (ns : List ℕ) → ((k : ℕ) → get_or ns k 0 ≤ largest) → in_range ns ≡ true
in-range ns h = within ns (λ k l. h k)

-- so it is what a test of each place answers
pub range_is : (ns : List ℕ) (r : Bool) → (IsTrue r ↔ EachIndex ns (λ k. slice_index ns k ≤ largest)) → in_range ns ≡ r
range_is ns true h = within ns (h.0 refl)
range_is ns false h = go (in_range ns) refl
  where
    go : (x : Bool) → in_range ns ≡ x → in_range ns ≡ false
    go false e = e
    go true e = never (h.1 (λ k l. range_at ns e k)) refl
