-- A list with an element for each of eight banks.
-- Assumes nothing.
use Prim.Native.Nat.{ℕ, zero, suc, ◌+◌, ◌<◌}
use native.Mathlib.Omega.{arith}
use mathlib.Core.Path.{◌≡◌, refl, ap, ◌∙◌}
use mathlib.Core.Bool.{cond}
use mathlib.Core.List.{List, [], ◌∷◌, ◌++◌}
use lib.ListN.{get_or, set}
use lib.Dec.{eqb}
use Rattle.laws.specs.Eight.{table}

module _ {A : Type 0} where
  pub get_or-table : (f : ℕ → A) (b : ℕ) (d : A) → b < 8 → get_or (table f) b d ≡ f b
  unfolding table
  get_or-table f zero d h = refl
  get_or-table f (suc zero) d h = refl
  get_or-table f (suc (suc zero)) d h = refl
  get_or-table f (suc (suc (suc zero))) d h = refl
  get_or-table f (suc (suc (suc (suc zero)))) d h = refl
  get_or-table f (suc (suc (suc (suc (suc zero))))) d h = refl
  get_or-table f (suc (suc (suc (suc (suc (suc zero)))))) d h = refl
  get_or-table f (suc (suc (suc (suc (suc (suc (suc zero))))))) d h = refl
  get_or-table f (suc (suc (suc (suc (suc (suc (suc (suc n)))))))) d h = absurd (omega arith)

  pub set-table : (f : ℕ → A) (b : ℕ) (v : A) → b < 8 → set (table f) b v ≡ table (λ c. cond (eqb b c) v (f c))
  unfolding table
  set-table f zero v h = refl
  set-table f (suc zero) v h = refl
  set-table f (suc (suc zero)) v h = refl
  set-table f (suc (suc (suc zero))) v h = refl
  set-table f (suc (suc (suc (suc zero)))) v h = refl
  set-table f (suc (suc (suc (suc (suc zero))))) v h = refl
  set-table f (suc (suc (suc (suc (suc (suc zero)))))) v h = refl
  set-table f (suc (suc (suc (suc (suc (suc (suc zero))))))) v h = refl
  set-table f (suc (suc (suc (suc (suc (suc (suc (suc n)))))))) v h = absurd (omega arith)

  -- two tables that agree at the eight banks
  pub table-ext : (f g : ℕ → A) → ((b : ℕ) → b < 8 → f b ≡ g b) → table f ≡ table g
  unfolding table
  table-ext f g h = λ i.
      h 0 (omega arith) i ∷ h 1 (omega arith) i ∷ h 2 (omega arith) i ∷ h 3 (omega arith) i ∷ h 4 (omega arith) i ∷ h 5 (omega arith) i
      ∷ h 6 (omega arith) i ∷ h 7 (omega arith) i ∷ []

  -- what holds of the new element and of the old one holds at each place after a store
  pub at_set : (P : A → Type 0) (d : A) (xs : List A) (i : ℕ) (v : A) (b : ℕ) → P v → P (get_or xs b d) → P (get_or (set xs i v) b d)
  at_set P d [] i v b p q = q
  at_set P d (x ∷ xs) zero v zero p q = p
  at_set P d (x ∷ xs) zero v (suc b) p q = q
  at_set P d (x ∷ xs) (suc i) v zero p q = q
  at_set P d (x ∷ xs) (suc i) v (suc b) p q = at_set P d xs i v b p q

  -- ── Twice eight ───────────────────────────────────────────────────────────────────────────

  pub get_or-first : (f g : ℕ → A) (b : ℕ) (d : A) → b < 8 → get_or (table f ++ table g) b d ≡ f b
  unfolding table
  get_or-first f g zero d h = refl
  get_or-first f g (suc zero) d h = refl
  get_or-first f g (suc (suc zero)) d h = refl
  get_or-first f g (suc (suc (suc zero))) d h = refl
  get_or-first f g (suc (suc (suc (suc zero)))) d h = refl
  get_or-first f g (suc (suc (suc (suc (suc zero))))) d h = refl
  get_or-first f g (suc (suc (suc (suc (suc (suc zero)))))) d h = refl
  get_or-first f g (suc (suc (suc (suc (suc (suc (suc zero))))))) d h = refl
  get_or-first f g (suc (suc (suc (suc (suc (suc (suc (suc n)))))))) d h = absurd (omega arith)

  pub get_or-second : (f g : ℕ → A) (b : ℕ) (d : A) → b < 8 → get_or (table f ++ table g) (b + 8) d ≡ g b
  unfolding table
  get_or-second f g b d h =
      let e : b + 8 ≡ suc (suc (suc (suc (suc (suc (suc (suc b))))))) = omega arith in
      ap (λ n. get_or (table f ++ table g) n d) e ∙ get_or-table g b d h

  pub set_first : (f g : ℕ → A) (b : ℕ) (v : A) → b < 8 → set (table f ++ table g) b v ≡ set (table f) b v ++ table g
  unfolding table
  set_first f g zero v h = refl
  set_first f g (suc zero) v h = refl
  set_first f g (suc (suc zero)) v h = refl
  set_first f g (suc (suc (suc zero))) v h = refl
  set_first f g (suc (suc (suc (suc zero)))) v h = refl
  set_first f g (suc (suc (suc (suc (suc zero))))) v h = refl
  set_first f g (suc (suc (suc (suc (suc (suc zero)))))) v h = refl
  set_first f g (suc (suc (suc (suc (suc (suc (suc zero))))))) v h = refl
  set_first f g (suc (suc (suc (suc (suc (suc (suc (suc n)))))))) v h = absurd (omega arith)

  pub set-second : (f g : ℕ → A) (b : ℕ) (v : A) → set (table f ++ table g) (b + 8) v ≡ table f ++ set (table g) b v
  unfolding table
  set-second f g b v =
      let e : b + 8 ≡ suc (suc (suc (suc (suc (suc (suc (suc b))))))) = omega arith in
      ap (λ n. set (table f ++ table g) n v) e
