-- To look back over all events is to check the latest one of the rule's kind, if that one asks for the latest edge. Clocks are counted
-- from any edge of an event: its own, or the precharge start of rule 5.
-- Assumes nothing.
use Prim.Native.Nat.{ℕ, ◌+◌, ◌-◌, ◌≤◌}
use native.Mathlib.Omega.{arith}
use mathlib.Core.Path.{◌≡◌, refl}
use mathlib.Core.Logic.{◌⊎◌, inl, inr, ⊎_elim}
use mathlib.Core.Bool.{Bool, true, false, cond}
use mathlib.Core.List.{[], ◌∷◌, tail}
use lib.Dec.{ltb}
use borrow.Author.Tests.{ltb-false, le-ltb}
use Rattle.answers.specs.declared.Break.{Break}
use Rattle.answers.specs.declared.Break.TheVariants.{Fine, Broken}
use Rattle.records.specs.declared.Record.{Record}
use Rattle.rules.specs.Past.{Past, edge, number, ◌∈◌, here, there, latest}
use Rattle.rules.specs.Search.{short, look_back, asking}

pub decide : (b : Bool) → (b ≡ true) ⊎ (b ≡ false)
decide true = inl refl
decide false = inr refl

pub if-true {ℓ} : {A : Type ℓ} {b : Bool} (x y : A) → b ≡ true → cond b x y ≡ x
if-true x y h = rw h

pub if-false {ℓ} : {A : Type ℓ} {b : Bool} (x y : A) → b ≡ false → cond b x y ≡ y
if-false x y h = rw h

-- an event's edge is at most that of the past it is of
pub edge-le : {s p : Past} → s ∈ p → edge s ≤ edge p
edge-le here = omega arith
edge-le (there {p = p} h) = let i = edge-le h in omega arith

-- no event of p asks for more clocks than there are, counted from `from` it
abbrev pub Kept : (from asks : Past → ℕ) → ℕ → Past → Type 0
Kept from asks e p = (s : Past) → s ∈ p → asks s ≤ e - from s

pub kept_fine : (from : Past → ℕ) (k : ℕ) (asks : Past → ℕ) (e : ℕ) (p : Past) → Kept from asks e p → look_back from k asks e p ≡ Fine
kept_fine from k asks e [] h = refl
kept_fine from k asks e (r ∷ p) h =
    rw (le-ltb (e - from (r ∷ p)) (asks (r ∷ p)) (h (r ∷ p) here)) (kept_fine from k asks e p (λ s i. h s (there i)))

pub broken-fine : {k n m f : ℕ} → Broken k n m f ≡ Fine → ⊥
broken-fine h = let z : ◌≡◌ {A = ℕ} 0 1 = cc in omega arith

-- what `short` says is Fine only where there are clocks enough, and then the rest is Fine too
pub short-fine : (k e at num need : ℕ) (b : Break) → short k e at num need b ≡ Fine → (need ≤ e - at) × (b ≡ Fine)
short-fine k e at num need b h = ⊎_elim
    (λ (t : ltb (e - at) need ≡ true). absurd (broken-fine (rw t at h)))
    (λ (t : ltb (e - at) need ≡ false). (ltb-false (e - at) need t, rw t at h))
    (decide (ltb (e - at) need))

pub short-either : (k e at num need : ℕ) (b c : Break) → (need ≤ e - at → b ≡ c) → short k e at num need b ≡ short k e at num need c
short-either k e at num need b c h = ⊎_elim
    (λ (t : ltb (e - at) need ≡ true). rw t)
    (λ (t : ltb (e - at) need ≡ false). rw t (h (ltb-false (e - at) need t)))
    (decide (ltb (e - at) need))

pub fine-kept : (from : Past → ℕ) (k : ℕ) (asks : Past → ℕ) (e : ℕ) (p : Past) → look_back from k asks e p ≡ Fine → Kept from asks e p
fine-kept from k asks e [] h s x'' = elim x'' [ ]
fine-kept from k asks e (r ∷ p) h s here = (short-fine k e (from (r ∷ p)) (number (r ∷ p)) (asks (r ∷ p)) (look_back from k asks e p) h).0
fine-kept from k asks e (r ∷ p) h s (there i) =
    fine-kept from k asks e p (short-fine k e (from (r ∷ p)) (number (r ∷ p)) (asks (r ∷ p)) (look_back from k asks e p) h).1 s i

-- the check of one event; of none it is fine
abbrev pub check_of : (from : Past → ℕ) (k e : ℕ) (need : Past → ℕ) → Past → Break
check_of from k e need [] = Fine
check_of from k e need (r ∷ p) = short k e (from (r ∷ p)) (number (r ∷ p)) (need (r ∷ p)) Fine

-- each event of the kind asks for as late an edge as any before it
abbrev pub Dominated : (from : Past → ℕ) → (Past → Bool) → (Past → ℕ) → Past → Type 0
Dominated from speaks need p = (s t : Past) → s ∈ p → t ∈ tail s → speaks s ≡ true → speaks t ≡ true → from t + need t ≤ from s + need s

-- an event that has its clocks is counted from no later than e
abbrev pub Reached : (from need : Past → ℕ) → ℕ → Past → Type 0
Reached from need e p = (s : Past) → s ∈ p → need s ≤ e - from s → from s ≤ e

pub edge-reached : (need : Past → ℕ) (e : ℕ) (p : Past) → edge p ≤ e → Reached edge need e p
edge-reached need e p late s i h = omega (arith, edge-le i)

module _ (from : Past → ℕ) (k e : ℕ) (speaks : Past → Bool) (need : Past → ℕ) where
  -- where the latest event of the kind has its clocks, so have all before it
  pub older-kept : (r : Record) (p : Past) → from (r ∷ p) ≤ e → need (r ∷ p) ≤ e - from (r ∷ p) → speaks (r ∷ p) ≡ true
      → Dominated from speaks need (r ∷ p) → Kept from (asking speaks need) e p
  older-kept r p late h y d s i = ⊎_elim
      (λ (t : speaks s ≡ true). rw t (let o = d (r ∷ p) s here i y t in omega arith))
      (λ (t : speaks s ≡ false). rw t (omega arith))
      (decide (speaks s))

  pub latest-only : (p : Past) → Reached from need e p → Dominated from speaks need p
      → look_back from k (asking speaks need) e p ≡ check_of from k e need (latest speaks p)
  latest-only [] late d = refl
  latest-only (r ∷ p) late d = ⊎_elim
      (λ (t : speaks (r ∷ p) ≡ true).
      rw t (short-either k e _ _ _ _ _ (λ h. kept_fine from k _ e p (older-kept r p (late (r ∷ p) here h) h t d))))
      (λ (t : speaks (r ∷ p) ≡ false).
      rw (t, le-ltb (e - from (r ∷ p)) 0 (omega arith)) (latest-only p (λ s i. late s (there i)) (λ s u i. d s u (there i))))
      (decide (speaks (r ∷ p)))

-- a rule whose need is a constant is always dominated
pub constant-dominated : (speaks : Past → Bool) (n : ℕ) (p : Past) → Dominated edge speaks (λ _. n) p
constant-dominated speaks n p [] t i j y z = elim j [ ]
constant-dominated speaks n p (r ∷ s) t i j y z = let o = edge-le j in omega arith

-- a rule whose need is a constant: only the latest event of the kind matters
pub constant-latest-only : (k e : ℕ) (speaks : Past → Bool) (n : ℕ) (p : Past) → edge p ≤ e
    → look_back edge k (asking speaks (λ _. n)) e p ≡ check_of edge k e (λ _. n) (latest speaks p)
constant-latest-only k e speaks n p late =
    latest-only edge k e speaks (λ _. n) p (edge-reached (λ _. n) e p late) (constant-dominated speaks n p)
