-- Places of a list, and two tables of eight one after the other.
-- Assumes nothing.
use Prim.Native.Nat.{ℕ, zero, suc, ◌+◌, ◌<◌}
use native.Mathlib.Omega.{arith}
use mathlib.Core.Path.{◌≡◌, refl, sym, ap, ◌∙◌}
use mathlib.Core.Bool.{cond}
use mathlib.Core.List.{List, [], ◌∷◌, ◌++◌}
use lib.Dec.{eqb}
use lib.ListN.{get_or, set, length, replicate}
use native.Mathlib.Decide.{ℕ_discrete}
use borrow.Author.Tests.{eq-eqb, ne_eqb}
use Rattle.laws.specs.Eight.{table}
use Rattle.laws.proofs.Eight.{get_or-table}

same_next : (i b : ℕ) → eqb i b ≡ eqb (suc i) (suc b)
same_next i b = elim (ℕ_discrete i b) [
  | yes e ↦ eq-eqb i b e ∙ sym (eq-eqb (suc i) (suc b) (ap suc e))
  | no f ↦ ne_eqb i b f ∙ sym (ne_eqb (suc i) (suc b) (λ e. f (omega arith)))
]

module _ {A : Type 0} where
  -- a place after a store
  pub get_d_set : (xs : List A) (i : ℕ) (v : A) (b : ℕ) (d : A) → i < length xs → get_or (set xs i v) b d ≡ cond (eqb i b) v (get_or xs b d)
  get_d_set [] i v b d l = absurd (omega arith)
  get_d_set (x ∷ xs) zero v zero d l = refl
  get_d_set (x ∷ xs) zero v (suc b) d l = rw (ne_eqb 0 (suc b) (λ e. omega arith))
  get_d_set (x ∷ xs) (suc i) v zero d l = rw (ne_eqb (suc i) 0 (λ e. omega arith))
  get_d_set (x ∷ xs) (suc i) v (suc b) d l = get_d_set xs i v b d (omega arith) ∙ ap (λ x. cond x v (get_or xs b d)) (same_next i b)

  -- eight of the same
  pub replicate-table : (v : A) → replicate 8 v ≡ table (λ _. v)
  unfolding table
  replicate-table v = refl

  -- of two tables the first
  pub get_or-low : (f g : ℕ → A) (b : ℕ) (d : A) → b < 8 → get_or (table f ++ table g) b d ≡ f b
  unfolding table
  get_or-low f g zero d h = refl
  get_or-low f g (suc zero) d h = refl
  get_or-low f g (suc (suc zero)) d h = refl
  get_or-low f g (suc (suc (suc zero))) d h = refl
  get_or-low f g (suc (suc (suc (suc zero)))) d h = refl
  get_or-low f g (suc (suc (suc (suc (suc zero))))) d h = refl
  get_or-low f g (suc (suc (suc (suc (suc (suc zero)))))) d h = refl
  get_or-low f g (suc (suc (suc (suc (suc (suc (suc zero))))))) d h = refl
  get_or-low f g (suc (suc (suc (suc (suc (suc (suc (suc n)))))))) d h = absurd (omega arith)

  by-table : (f : ℕ → A) (ys : List A) (b : ℕ) (d : A) → get_or (table f ++ ys) (suc (suc (suc (suc (suc (suc (suc (suc b)))))))) d ≡ get_or ys b d
  unfolding table
  by-table f ys b d = refl

  -- and the second
  pub get_or-high : (f g : ℕ → A) (b : ℕ) (d : A) → b < 8 → get_or (table f ++ table g) (b + 8) d ≡ g b
  get_or-high f g b d h =
      let e : b + 8 ≡ suc (suc (suc (suc (suc (suc (suc (suc b))))))) = omega arith in
      ap (λ i. get_or (table f ++ table g) i d) e ∙ by-table f (table g) b d ∙ get_or-table g b d h
