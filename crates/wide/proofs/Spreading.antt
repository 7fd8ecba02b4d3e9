-- Bytes of each element, one after the other: of two lists, how many, cut again into what they came from; and pieces put together again.
-- Assumes nothing.
use Prim.Native.Nat.{ℕ, zero, suc, ◌+◌, ◌*◌, ◌/◌, ◌%◌, ◌≤◌, ◌<◌}
use native.Mathlib.Nat.{mod-add-div'}
use native.Mathlib.Omega.{arith}
use mathlib.Core.List.{List, [], ◌∷◌, ◌++◌, map, append_assoc}
use mathlib.Core.Path.{◌≡◌, refl, sym, ap, ◌∙◌}
use lib.ListN.{length, take, drop, length-append, length-drop, take-append-drop}
use lib.Seq.{take_at, drop_at, length-take-le, get_or-drop}
use Rattle.records.specs.Pieces.{pieces}
use Rattle.records.proofs.Pieces.{no-piece, next-piece}
use Rattle.wide.specs.Spread.{spread, Bytes}

module _ {A : Type 0} (f : A → List ℕ) where
  pub spread-append : (xs ys : List A) → spread f (xs ++ ys) ≡ spread f xs ++ spread f ys
  spread-append [] ys = refl
  spread-append (x ∷ xs) ys = ap (λ bs. f x ++ bs) (spread-append xs ys) ∙ sym (append_assoc (f x) (spread f xs) (spread f ys))

  module _ (k : ℕ) (sized : (x : A) → length (f x) ≡ k) where
    pub length-spread : (xs : List A) → length (spread f xs) ≡ k * length xs
    length-spread [] = omega arith
    length-spread (x ∷ xs) = omega (arith, length-append (f x) (spread f xs), sized x, length-spread xs)

    pub pieces-spread : 0 < k → (xs : List A) → pieces k (spread f xs) ≡ map f xs
    pieces-spread some [] = no-piece k [] some
    pieces-spread some (x ∷ xs) =
        next-piece k some (f x ++ spread f xs) (omega (arith, length-append (f x) (spread f xs), sized x))
        ∙ (λ i. take_at (f x) (spread f xs) k (sized x) i ∷ pieces k (drop_at (f x) (spread f xs) k (sized x) i))
        ∙ ap (λ ps. f x ∷ ps) (pieces-spread some xs)

pub spread-map : {A B : Type 0} (f : B → List ℕ) (g : A → B) (xs : List A) → spread f (map g xs) ≡ spread (λ x. f (g x)) xs
spread-map f g [] = refl
spread-map f g (x ∷ xs) = ap (λ bs. f (g x) ++ bs) (spread-map f g xs)

pub map-ext : {A B : Type 0} (f g : A → B) → ((x : A) → f x ≡ g x) → (xs : List A) → map f xs ≡ map g xs
map-ext f g same [] = refl
map-ext f g same (x ∷ xs) = λ i. same x i ∷ map-ext f g same xs i

-- ── Bytes ───────────────────────────────────────────────────────────────────────────────────

pub bytes_drop : (k : ℕ) (bs : List ℕ) → Bytes bs → Bytes (drop k bs)
bytes_drop k bs small i = rw (get_or-drop k bs i 0) (small (k + i))

pub bytes_take : (k : ℕ) (bs : List ℕ) → Bytes bs → Bytes (take k bs)
bytes_take zero bs small i = omega arith
bytes_take (suc k) [] small i = omega arith
bytes_take (suc k) (b ∷ bs) small zero = small zero
bytes_take (suc k) (b ∷ bs) small (suc i) = bytes_take k bs (λ j. small (suc j)) i

-- ── Pieces ──────────────────────────────────────────────────────────────────────────────────

module _ (k : ℕ) (some : 0 < k) where
  -- a function that keeps each piece keeps the bytes
  module _ (f : List ℕ → List ℕ) (keeps : (xs : List ℕ) → length xs ≡ k → Bytes xs → f xs ≡ xs) where
    kept-times : (n : ℕ) (bs : List ℕ) → length bs ≡ n * k → Bytes bs → spread f (pieces k bs) ≡ bs
    kept-times zero [] e small = ap (spread f) (no-piece k [] some)
    kept-times zero (_ ∷ _) e small = absurd (omega arith)
    kept-times (suc n) bs e small =
        let enough : k ≤ length bs = omega arith in
        ap (spread f) (next-piece k some bs enough)
        ∙ (λ i. keeps (take k bs) (length-take-le k bs enough) (bytes_take k bs small) i
        ++ kept-times n (drop k bs) (omega (arith, length-drop k bs)) (bytes_drop k bs small) i)
        ∙ take-append-drop k bs

    pub pieces_kept : (bs : List ℕ) → length bs % k ≡ 0 → Bytes bs → spread f (pieces k bs) ≡ bs
    pieces_kept bs e =
        kept-times (length bs / k) bs (sym (mod-add-div' (length bs) k) ∙ ap (λ (m : ℕ). m + length bs / k * k) e ∙ omega arith)
