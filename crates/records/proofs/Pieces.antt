-- Bytes in pieces of one size, whatever the size: one more, none, an append, how many.
-- Assumes nothing.
use Prim.Native.Nat.{ℕ, zero, suc, ◌+◌, ◌*◌, ◌/◌, ◌%◌, ◌≤◌, ◌<◌}
use native.Mathlib.Nat.{div-eq_of_lt, div-eq-sub-div, mod-add-div'}
use native.Mathlib.Numerals.{add-one}
use native.Mathlib.Omega.{arith}
use mathlib.Core.List.{List, [], ◌∷◌, ◌++◌, map}
use mathlib.Core.Path.{◌≡◌, refl, sym, ap, ◌∙◌}
use lib.ListN.{length, take, drop, length-append, length-drop}
use lib.Seq.{take-append-le, drop-append-le}
use Rattle.records.specs.Pieces.{pieces_in, pieces}

count-in : (n w : ℕ) (bs : List ℕ) → length (pieces_in n w bs) ≡ n
count-in zero w bs = refl
count-in (suc n) w bs = ap suc (count-in n w (drop w bs))

pub length-pieces : (w : ℕ) (bs : List ℕ) → length (pieces w bs) ≡ length bs / w
length-pieces w bs = count-in (length bs / w) w bs

-- fewer bytes than a piece has
pub no-piece : (w : ℕ) (bs : List ℕ) → length bs < w → pieces w bs ≡ []
no-piece w bs few = ap (λ (n : ℕ). pieces_in n w bs) (div-eq_of_lt few)

module _ (w : ℕ) (some : 0 < w) where
  pub next-piece : (bs : List ℕ) → w ≤ length bs → pieces w bs ≡ take w bs ∷ pieces w (drop w bs)
  next-piece bs enough = ap (λ (n : ℕ). pieces_in n w bs) (div-eq-sub-div some enough ∙ add-one _) ∙ ap (λ (n : ℕ). take w bs ∷ pieces_in (n / w) w (drop w bs)) (sym (length-drop w bs))

  -- whole pieces, then more
  append-times : (n : ℕ) (xs ys : List ℕ) → length xs ≡ n * w → pieces w (xs ++ ys) ≡ pieces w xs ++ pieces w ys
  append-times zero [] ys e = ap (λ ps. ps ++ pieces w ys) (sym (no-piece w [] some))
  append-times zero (_ ∷ _) ys e = absurd (omega arith)
  append-times (suc n) xs ys e =
      let enough : w ≤ length xs = omega arith in
      next-piece (xs ++ ys) (omega (arith, length-append xs ys))
      ∙ (λ i. take-append-le w xs ys enough i ∷ pieces w (drop-append-le w xs ys enough i))
      ∙ ap (λ ps. take w xs ∷ ps) (append-times n (drop w xs) ys (omega (arith, length-drop w xs)))
      ∙ ap (λ ps. ps ++ pieces w ys) (sym (next-piece xs enough))

  pub pieces-append : (xs ys : List ℕ) → length xs % w ≡ 0 → pieces w (xs ++ ys) ≡ pieces w xs ++ pieces w ys
  pieces-append xs ys e = append-times (length xs / w) xs ys (sym (mod-add-div' (length xs) w) ∙ ap (λ (m : ℕ). m + length xs / w * w) e ∙ omega arith)

-- a list of both is a list of one and a list of the other
pub map-append : {A B : Type 0} (f : A → B) (xs ys : List A) → map f (xs ++ ys) ≡ map f xs ++ map f ys
map-append f [] ys = refl
map-append f (x ∷ xs) ys = ap (λ zs. f x ∷ zs) (map-append f xs ys)
