-- Bytes of either edition: how many records, and what the ranks see, of two parts.
-- Assumes nothing.
use Prim.Native.Nat.{ℕ, ◌+◌, ◌/◌, ◌%◌, ◌≤◌, ◌<◌}
use native.Mathlib.Omega.{arith}
use mathlib.Core.Bool.{Bool, true, false, cond}
use mathlib.Core.List.{List, [], ◌++◌}
use mathlib.Core.Path.{◌≡◌, refl, sym, ap, ◌∙◌}
use lib.Dec.{eqb}
use lib.ListN.{length, length-append}
use Rattle.records.specs.Record.{records, has_zero}
use Rattle.wide.specs.Wide.{wides, has_spare}
use Rattle.wide.specs.Moved.{narrow}
use Rattle.wide.specs.Editions.{size, view, spare_in}
use Rattle.wide.proofs.Wides.{wides-append, rank-zero, spare-append}
use Rattle.wide.proofs.Moving.{records-narrow, narrow-append, length-narrow}

module _ (e : ℕ) where
  -- what holds of six bytes a record and of eight holds of each edition's
  by_size : (P : ℕ → Type 0) → P 6 → P 8 → P (size e)
  unfolding size
  by_size P six eight = go (eqb e 2)
    where
      go : (x : Bool) → P (cond x 8 6)
      go true = eight
      go false = six

  pub some : 0 < size e
  some = by_size (λ k. 0 < k) (omega arith) (omega arith)

  pub six-least : 6 ≤ size e
  six-least = by_size (λ k. 6 ≤ k) (omega arith) (omega arith)

  -- ── How many ────────────────────────────────────────────────────────────────────────────────

  module _ (xs ys : List ℕ) where
    pub even-both : length xs % size e ≡ 0 → length ys % size e ≡ 0 → length (xs ++ ys) % size e ≡ 0
    even-both =
        let long = length-append xs ys in
        by_size (λ k. length xs % k ≡ 0 → length ys % k ≡ 0 → length (xs ++ ys) % k ≡ 0) (λ a b. omega (arith, long)) (λ a b. omega (arith, long))

    pub even-rest : length xs % size e ≡ 0 → length (xs ++ ys) % size e ≡ 0 → length ys % size e ≡ 0
    even-rest =
        let long = length-append xs ys in
        by_size (λ k. length xs % k ≡ 0 → length (xs ++ ys) % k ≡ 0 → length ys % k ≡ 0) (λ a b. omega (arith, long)) (λ a b. omega (arith, long))

    pub count-both : length xs % size e ≡ 0 → length (xs ++ ys) / size e ≡ length xs / size e + length ys / size e
    count-both =
        let long = length-append xs ys in
        by_size (λ k. length xs % k ≡ 0 → length (xs ++ ys) / k ≡ length xs / k + length ys / k) (λ a. omega (arith, long)) (λ a. omega (arith, long))

  -- ── What a rank sees ────────────────────────────────────────────────────────────────────────

  pub view-none : (second : Bool) → view e second [] ≡ []
  unfolding view
  view-none second = go (eqb e 2) second
    where
      go : (x s : Bool) → cond x (narrow second []) (cond s [] []) ≡ []
      go true s = refl
      go false true = refl
      go false false = refl

  pub view-both : (second : Bool) (xs ys : List ℕ) → length xs % size e ≡ 0 → view e second (xs ++ ys) ≡ view e second xs ++ view e second ys
  unfolding size view
  view-both second xs ys = go (eqb e 2) second
    where
      go : (x s : Bool) → length xs % cond x 8 6 ≡ 0
          → cond x (narrow second (xs ++ ys)) (cond s [] (xs ++ ys)) ≡ cond x (narrow second xs) (cond s [] xs) ++ cond x (narrow second ys) (cond s [] ys)
      go true s h = narrow-append second xs ys h
      go false true h = refl
      go false false h = refl

  pub view-sixes : (second : Bool) (bs : List ℕ) → length bs % size e ≡ 0 → length (view e second bs) % 6 ≡ 0
  unfolding size view
  view-sixes second bs = go (eqb e 2) second
    where
      go : (x s : Bool) → length bs % cond x 8 6 ≡ 0 → length (cond x (narrow second bs) (cond s [] bs)) % 6 ≡ 0
      go true s h = omega (arith, length-narrow second bs)
      go false true h = refl
      go false false h = h

  -- the first rank sees all records
  pub view-count : (bs : List ℕ) → length (view e false bs) / 6 ≡ length bs / size e
  unfolding size view
  view-count bs = go (eqb e 2)
    where
      go : (x : Bool) → length (cond x (narrow false bs) bs) / 6 ≡ length bs / cond x 8 6
      go true = omega (arith, length-narrow false bs)
      go false = refl

  -- the second as many, or none
  pub second-most : (bs : List ℕ) → length (view e true bs) / 6 ≤ length bs / size e
  unfolding size view
  second-most bs = go (eqb e 2)
    where
      go : (x : Bool) → length (cond x (narrow true bs) []) / 6 ≤ length bs / cond x 8 6
      go true = omega (arith, length-narrow true bs)
      go false = omega arith

  -- a step of 0 is one for both
  pub second-zero : (bs : List ℕ) → has_zero (records (view e false bs)) ≡ false → has_zero (records (view e true bs)) ≡ false
  unfolding view
  second-zero bs = go (eqb e 2)
    where
      go : (x : Bool) → has_zero (records (cond x (narrow false bs) bs)) ≡ false → has_zero (records (cond x (narrow true bs) [])) ≡ false
      go true h =
          ap has_zero (records-narrow true bs) ∙ rank-zero true (wides bs) ∙ ap has_zero (sym (records-narrow false bs)) ∙ h
      go false h = refl

  pub spare-both : (xs ys : List ℕ) → length xs % size e ≡ 0 → spare_in e (xs ++ ys) ≡ false → (spare_in e xs ≡ false) × (spare_in e ys ≡ false)
  unfolding size spare_in
  spare-both xs ys = go (eqb e 2)
    where
      go : (x : Bool) → length xs % cond x 8 6 ≡ 0 → cond x (has_spare (wides (xs ++ ys))) false ≡ false
          → (cond x (has_spare (wides xs)) false ≡ false) × (cond x (has_spare (wides ys)) false ≡ false)
      go true h z = spare-append (wides xs) (wides ys) (ap has_spare (sym (wides-append xs ys h)) ∙ z)
      go false h z = (refl, refl)

-- ── By the edition ──────────────────────────────────────────────────────────────────────────

pub size-one : size 1 ≡ 6
unfolding size
size-one = refl

pub size-two : size 2 ≡ 8
unfolding size
size-two = refl

pub view-one : (bs : List ℕ) → view 1 false bs ≡ bs
unfolding view
view-one bs = refl

pub view-two : (second : Bool) (bs : List ℕ) → view 2 second bs ≡ narrow second bs
unfolding view
view-two second bs = refl

pub second-one : (bs : List ℕ) → view 1 true bs ≡ []
unfolding view
second-one bs = refl

pub spare-one : (bs : List ℕ) → spare_in 1 bs ≡ false
unfolding spare_in
spare-one bs = refl

pub spare-two : (bs : List ℕ) → spare_in 2 bs ≡ has_spare (wides bs)
unfolding spare_in
spare-two bs = refl
