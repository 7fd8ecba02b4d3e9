-- To look back for either of two kinds is to look back for each, and to take the break by the later record.
-- Assumes nothing.
use Prim.Native.Nat.{ℕ, zero, suc, ◌+◌, ◌-◌, ◌≤◌, ◌<◌}
use native.Mathlib.Omega.{arith}
use mathlib.Core.Path.{◌≡◌, refl, sym, ap, ◌∙◌, fun_ext}
use mathlib.Core.Bool.{Bool, true, false, cond, ◌||◌}
use mathlib.Core.List.{[], ◌∷◌}
use lib.Dec.{ltb}
use borrow.Author.Tests.{le-ltb, lt-ltb}
use Rattle.laws.specs.Any.{any_of}
use Rattle.answers.specs.declared.Break.{Break}
use Rattle.answers.specs.declared.Break.TheVariants.{Fine, Broken}
use Rattle.running.specs.Down.{later_of, latest_of}
use Rattle.rules.specs.Past.{Past, number}
use Rattle.rules.specs.Search.{short, look_back, asking}

-- ── Either of two kinds ─────────────────────────────────────────────────────────────────────

-- the record that a break names has a number below n
abbrev pub Before : ℕ → Break → Type 0
Before n Fine = Unit {0}
Before n (Broken k m x y) = m < n

pub later_first : (k n m f : ℕ) (b : Break) → Before (n + 1) b → later_of (Broken k n m f) b ≡ Broken k n m f
unfolding later_of
later_first k n m f Fine h = refl
later_first k n m f (Broken l o x y) h = rw (le-ltb n o (omega arith))

pub later_second : (k n m f : ℕ) (b : Break) → Before n b → later_of b (Broken k n m f) ≡ Broken k n m f
unfolding later_of
later_second k n m f Fine h = refl
later_second k n m f (Broken l o x y) h = rw (lt-ltb o n h)

before_more : (n m : ℕ) (b : Break) → n ≤ m → Before n b → Before m b
before_more n m Fine l h = tt
before_more n m (Broken k o x y) l h = omega arith

look-before : (from : Past → ℕ) (k : ℕ) (asks : Past → ℕ) (e : ℕ) (p : Past) → Before (number p + 1) (look_back from k asks e p)
look-before from k asks e [] = tt
look-before from k asks e (r ∷ p) = go (ltb (e - from (r ∷ p)) (asks (r ∷ p))) (look-before from k asks e p)
  where
    go : (x : Bool) → Before (number p + 1) (look_back from k asks e p)
        → Before (number (r ∷ p) + 1) (cond x (Broken k (number (r ∷ p)) (asks (r ∷ p)) (e - from (r ∷ p))) (look_back from k asks e p))
    go true h = omega arith
    go false h = before_more (number p + 1) (number (r ∷ p) + 1) (look_back from k asks e p) (omega arith) h

-- to look back for either of two kinds is to look back for each and to take the later break
pub either-kind :
    (from : Past → ℕ) (k : ℕ) (K L : Past → Bool) (need : Past → ℕ) (e : ℕ) (p : Past)
    → look_back from k (asking (λ s. K s || L s) need) e p ≡ later_of (look_back from k (asking K need) e p) (look_back from k (asking L need) e p)
unfolding later_of
either-kind from k K L need e [] = refl
either-kind from k K L need e (r ∷ p) =
    go (K (r ∷ p)) (L (r ∷ p)) (ltb (e - from (r ∷ p)) (need (r ∷ p))) refl (either-kind from k K L need e p)
  where
    n : ℕ
    n = number (r ∷ p)

    X : Break
    X = look_back from k (asking K need) e p

    Y : Break
    Y = look_back from k (asking L need) e p

    hit : Break
    hit = Broken k (number (r ∷ p)) (need (r ∷ p)) (e - from (r ∷ p))

    own : (b : Break) → Before (number (r ∷ p) + 1) b → later_of hit b ≡ hit
    own b h = later_first k (number (r ∷ p)) (need (r ∷ p)) (e - from (r ∷ p)) b h

    other : (b : Break) → Before (number (r ∷ p)) b → later_of b hit ≡ hit
    other b h = later_second k (number (r ∷ p)) (need (r ∷ p)) (e - from (r ∷ p)) b h

    none : (b : Break) → short k e (from (r ∷ p)) (number (r ∷ p)) 0 b ≡ b
    none b = rw (le-ltb (e - from (r ∷ p)) 0 (omega arith))

    go : (x y z : Bool) → ltb (e - from (r ∷ p)) (need (r ∷ p)) ≡ z → look_back from k (asking (λ s. K s || L s) need) e p ≡ later_of X Y
        → short k e (from (r ∷ p)) (number (r ∷ p)) (cond (x || y) (need (r ∷ p)) 0) (look_back from k (asking (λ s. K s || L s) need) e p)
        ≡ later_of (short k e (from (r ∷ p)) (number (r ∷ p)) (cond x (need (r ∷ p)) 0) X) (short k e (from (r ∷ p)) (number (r ∷ p)) (cond y (need (r ∷ p)) 0) Y)
    go true true true w h = rw w (sym (own hit (omega arith)))
    go true true false w h = rw w h
    go true false true w h = rw (w, none Y) (sym (own Y (before_more (number p + 1) (number (r ∷ p) + 1) Y (omega arith) (look-before from k (asking L need) e p))))
    go true false false w h = rw (w, none Y) h
    go false true true w h = rw (w, none X) (sym (other X (look-before from k (asking K need) e p)))
    go false true false w h = rw (w, none X) h
    go false false z w h = rw (none (look_back from k (asking (λ s. K s || L s) need) e p), none X, none Y) h

-- so of n kinds
pub any-kind :
    (from : Past → ℕ) (k : ℕ) (K : ℕ → Past → Bool) (need : Past → ℕ) (e : ℕ) (p : Past) (n : ℕ)
    → look_back from k (asking (λ s. any_of (λ b. K b s) n) need) e p ≡ latest_of (λ b. look_back from k (asking (K b) need) e p) n
unfolding any_of latest_of
any-kind from k K need e p zero = none p
  where
    none : (q : Past) → look_back from k (λ s. cond false (need s) 0) e q ≡ Fine
    none [] = refl
    none (r ∷ q) = rw (le-ltb (e - from (r ∷ q)) 0 (omega arith)) (none q)
any-kind from k K need e p (suc n) =
    either-kind from k (λ s. any_of (λ b. K b s) n) (K n) need e p
    ∙ ap (λ b. later_of b (look_back from k (asking (K n) need) e p)) (any-kind from k K need e p n)

-- what is asked is the same
pub asks-same : (from : Past → ℕ) (k : ℕ) (a b : Past → ℕ) (e : ℕ) (p : Past) → ((s : Past) → a s ≡ b s) → look_back from k a e p ≡ look_back from k b e p
asks-same from k a b e p h = ap (λ (f : Past → ℕ). look_back from k f e p) (fun_ext h)

pub latest-of-same : (f g : ℕ → Break) (n : ℕ) → ((b : ℕ) → b < n → f b ≡ g b) → latest_of f n ≡ latest_of g n
unfolding latest_of
latest-of-same f g zero h = refl
latest-of-same f g (suc n) h = λ i. later_of (latest-of-same f g n (λ b l. h b (omega arith)) i) (h n (omega arith) i)
