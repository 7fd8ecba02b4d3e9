-- The rule of a table, shown at all of its entries by one test that antt computes, one entry after the other.
-- Assumes nothing.
use mathlib.Core.Path.{◌≡◌, ◌∙◌, subst, sym}
use mathlib.Core.Bool.{Bool, true, false}
use mathlib.Core.List.{List, [], ◌∷◌}
use Prim.Native.Nat.{ℕ, zero, suc, ◌+◌, ◌<◌}
use native.Mathlib.Nat.{add-zero, zero-add, add-suc, suc-add, le_of_suc-le-suc, not-suc-le-zero}
use lib.Dec.{T, eqb, eqb→eq}
use lib.ListN.{length, get_or}

-- both tests pass
abbrev pub both : Bool → Bool → Bool
both true b = b
both false b = false

both_left : (a b : Bool) → T (both a b) → T a
both_left true b t = tt
both_left false b t = t

both_right : (a b : Bool) → T (both a b) → T b
both_right true b t = t
both_right false b t = absurd t

-- each entry is what the rule says of its place, counted from i
abbrev pub follows : (ℕ → ℕ) → ℕ → List ℕ → Bool
follows rule i [] = true
follows rule i (x ∷ xs) = both (eqb x (rule i)) (follows rule (suc i) xs)

from : (rule : ℕ → ℕ) (xs : List ℕ) (i : ℕ) → T (follows rule i xs) → (k : ℕ) → k < length xs → get_or xs k 0 ≡ rule (i + k)
from rule [] i t k h = absurd (not-suc-le-zero h)
from rule (x ∷ xs) i t zero h =
    subst (λ (m : ℕ). x ≡ rule m) (sym (add-zero i)) (eqb→eq x (rule i) (both_left (eqb x (rule i)) (follows rule (suc i) xs) t))
from rule (x ∷ xs) i t (suc k) h =
    subst (λ (m : ℕ). get_or xs k 0 ≡ rule m) (suc-add i k ∙ sym (add-suc i k))
    (from rule xs (suc i) (both_right (eqb x (rule i)) (follows rule (suc i) xs) t) k (le_of_suc-le-suc h))

-- a table that passes the test holds what the rule says at each of its places
pub table-rule : (rule : ℕ → ℕ) (xs : List ℕ) → T (follows rule 0 xs) → (k : ℕ) → k < length xs → get_or xs k 0 ≡ rule k
table-rule rule xs t k h = subst (λ (m : ℕ). get_or xs k 0 ≡ rule m) (zero-add k) (from rule xs 0 t k h)

-- each row is as wide as said, and follows what the rule says of its place, counted from i
abbrev pub follows_by : (width : ℕ) → (ℕ → ℕ → ℕ) → ℕ → List (List ℕ) → Bool
follows_by width rule i [] = true
follows_by width rule i (xs ∷ rows) = both (both (eqb (length xs) width) (follows (rule i) 0 xs)) (follows_by width rule (suc i) rows)

from_row :
    (width : ℕ) (rule : ℕ → ℕ → ℕ) (rows : List (List ℕ)) (i : ℕ) → T (follows_by width rule i rows) → (n k : ℕ) → n < length rows → k < width
    → get_or (get_or rows n []) k 0 ≡ rule (i + n) k
from_row width rule [] i t n k h g = absurd (not-suc-le-zero h)
from_row width rule (xs ∷ rows) i t zero k h g =
    let own = both_left (both (eqb (length xs) width) (follows (rule i) 0 xs)) (follows_by width rule (suc i) rows) t in
    let wide = eqb→eq (length xs) width (both_left (eqb (length xs) width) (follows (rule i) 0 xs) own) in
    rw add-zero (table-rule (rule i) xs (both_right (eqb (length xs) width) (follows (rule i) 0 xs) own) k (rw wide g))
from_row width rule (xs ∷ rows) i t (suc n) k h g =
    subst (λ (m : ℕ). get_or (get_or rows n []) k 0 ≡ rule m k) (suc-add i n ∙ sym (add-suc i n))
    (from_row width rule rows (suc i) (both_right (both (eqb (length xs) width) (follows (rule i) 0 xs)) (follows_by width rule (suc i) rows) t) n k
    (le_of_suc-le-suc h) g)

-- the same of a table of rows of one width
pub rows-rule :
    (width : ℕ) (rule : ℕ → ℕ → ℕ) (rows : List (List ℕ)) → T (follows_by width rule 0 rows) → (n k : ℕ) → n < length rows → k < width
    → get_or (get_or rows n []) k 0 ≡ rule n k
rows-rule width rule rows t n k h g =
    subst (λ (m : ℕ). get_or (get_or rows n []) k 0 ≡ rule m k) (zero-add n) (from_row width rule rows 0 t n k h g)
