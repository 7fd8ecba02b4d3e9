-- Events of a past: the latest of a kind, the greatest of a kind, and what came between two.
-- Assumes nothing.
use Prim.Native.Nat.{ℕ, zero, suc, ◌≤◌, ◌<◌}
use native.Mathlib.Omega.{arith}
use mathlib.Core.Path.{◌≡◌, refl, sym, ap, ◌∙◌}
use mathlib.Core.Logic.{◌⊎◌, inl, inr, ⊎_elim}
use mathlib.Core.Bool.{Bool, true, false, cond, ◌||◌, true≢false}
use mathlib.Core.List.{[], ◌∷◌, tail}
use lib.Dec.{leb}
use borrow.Author.Tests.{leb-true, leb-false, le-leb}
use Rattle.answers.specs.declared.Break.{Break}
use Rattle.answers.specs.declared.Break.TheVariants.{Fine, Broken}
use Rattle.records.specs.declared.Record.{Record}
use Rattle.rules.specs.Past.{Past, edge, number, ◌∈◌, here, there, latest, back, greatest, Greatest}
use Rattle.answers.specs.Answer.{or_else}
use Rattle.rules.proofs.Generic.{decide, broken-fine}

pub never {ℓ} : {A : Type ℓ} {b : Bool} → b ≡ true → b ≡ false → A
never y n = absurd (true≢false (sym y ∙ n))

pub either : (a b : Bool) → a || b ≡ true → (a ≡ true) ⊎ (b ≡ true)
either true b h = inl refl
either false b h = inr h

pub push {ℓ ℓ'} : {A : Type ℓ} {B : Type ℓ'} (f : A → B) (b : Bool) (x y : A) → cond b (f x) (f y) ≡ f (cond b x y)
push f true x y = refl
push f false x y = refl

pub or_else-fine : (b c : Break) → or_else b c ≡ Fine → (b ≡ Fine) × (c ≡ Fine)
unfolding or_else
or_else-fine Fine c h = (refl, h)
or_else-fine (Broken k n m f) c h = absurd (broken-fine h)

pub ∈-trans : {t s p : Past} → t ∈ tail s → s ∈ p → t ∈ p
∈-trans i here = there i
∈-trans i (there h) = there (∈-trans i h)

pub number-le : {s p : Past} → s ∈ p → number s ≤ number p
number-le here = omega arith
number-le (there h) = let i = number-le h in omega arith

pub some : {s p : Past} → s ∈ p → 1 ≤ number p
some here = omega arith
some (there i) = omega arith

pub event-some : {s p : Past} → s ∈ p → 1 ≤ number s
event-some here = omega arith
event-some (there i) = event-some i

-- ── The latest ──────────────────────────────────────────────────────────────────────────────

pub latest-is : (k : Past → Bool) (p : Past) → (latest k p ≡ []) ⊎ ((latest k p ∈ p) × (k (latest k p) ≡ true))
latest-is k [] = inl refl
latest-is k (r ∷ p) = ⊎_elim
    (λ (y : k (r ∷ p) ≡ true). inr (rw y here, rw y y))
    (λ (n : k (r ∷ p) ≡ false). ⊎_elim (λ e. inl (rw n e)) (λ w. inr (rw n (there w.0), rw n w.1)) (latest-is k p))
    (decide (k (r ∷ p)))

pub latest-edge : (k : Past → Bool) (p : Past) → edge (latest k p) ≤ edge p
latest-edge k [] = omega arith
latest-edge k (r ∷ p) = ⊎_elim
    (λ (y : k (r ∷ p) ≡ true). rw y (omega arith))
    (λ (n : k (r ∷ p) ≡ false). rw n (omega (arith, latest-edge k p)))
    (decide (k (r ∷ p)))

pub back-edge : (k : Past → Bool) (n : ℕ) (p : Past) → edge (back k n p) ≤ edge p
back-edge k n [] = omega arith
back-edge k zero (r ∷ p) = ⊎_elim
    (λ (y : k (r ∷ p) ≡ true). rw y (omega arith))
    (λ (z : k (r ∷ p) ≡ false). rw z (omega (arith, back-edge k zero p)))
    (decide (k (r ∷ p)))
back-edge k (suc n) (r ∷ p) = ⊎_elim
    (λ (y : k (r ∷ p) ≡ true). rw y (omega (arith, back-edge k n p)))
    (λ (z : k (r ∷ p) ≡ false). rw z (omega (arith, back-edge k (suc n) p)))
    (decide (k (r ∷ p)))

-- of an earlier event either nothing of the kind k came since, or an event m of the kind did
pub unchanged-or : (k : Past → Bool) {t p : Past} → t ∈ p
    → (latest k p ≡ latest k t) ⊎ ((m : Past) × (m ∈ p) × (t ∈ tail m) × (k m ≡ true))
unchanged-or k here = inl refl
unchanged-or k (there {r = r} {p = p} i) = ⊎_elim
    (λ (y : k (r ∷ p) ≡ true). inr (r ∷ p, here, i, y))
    (λ (y : k (r ∷ p) ≡ false). ⊎_elim (λ e. inl (rw y e)) (λ w. inr (w.0, there w.1, w.2, w.3)) (unchanged-or k i))
    (decide (k (r ∷ p)))

-- the latest event of a kind that is part of another: looked for from the latest of that other
pub latest-part : (part kind : Past → Bool) → ((s : Past) → part s ≡ true → kind s ≡ true) → (p : Past)
    → latest part p ≡ latest part (latest kind p)
latest-part part kind f [] = refl
latest-part part kind f (r ∷ p) = ⊎_elim
    (λ (t : kind (r ∷ p) ≡ true). rw t)
    (λ (t : kind (r ∷ p) ≡ false). ⊎_elim
    (λ (u : part (r ∷ p) ≡ true). never (f (r ∷ p) u) t)
    (λ (u : part (r ∷ p) ≡ false). rw (t, u) (latest-part part kind f p))
    (decide (part (r ∷ p))))
    (decide (kind (r ∷ p)))

-- so where the latest of all is the same, so is the latest of the part
pub part_same : (part kind : Past → Bool) → ((s : Past) → part s ≡ true → kind s ≡ true) → (s t : Past)
    → latest kind s ≡ latest kind t → latest part s ≡ latest part t
part_same part kind f s t e = latest-part part kind f s ∙ ap (latest part) e ∙ sym (latest-part part kind f t)

-- ── The greatest ────────────────────────────────────────────────────────────────────────────

module _ (k : Past → Bool) (f : Past → ℕ) where
  greatest-new : (r : Record) (p : Past) → k (r ∷ p) ≡ true → ((t : Past) → t ∈ p → k t ≡ true → f t ≤ f (r ∷ p)) → Greatest k f (r ∷ p) (r ∷ p)
  greatest-new r p y h = record { event = here; kind = y; most = most; last = λ t i z l. absurd (omega (arith, number-le i)) }
    where
      most : (t : Past) → t ∈ r ∷ p → k t ≡ true → f t ≤ f (r ∷ p)
      most t here z = omega arith
      most t (there i) z = h t i z

  greatest-old : (r : Record) (p s : Past) → (k (r ∷ p) ≡ true → f (r ∷ p) < f s) → Greatest k f p s → Greatest k f (r ∷ p) s
  greatest-old r p s h g = record { event = there g.event; kind = g.kind; most = most; last = last }
    where
      most : (t : Past) → t ∈ r ∷ p → k t ≡ true → f t ≤ f s
      most t here z = omega (arith, h z)
      most t (there i) z = g.most t i z

      last : (t : Past) → t ∈ r ∷ p → k t ≡ true → number s < number t → f t < f s
      last t here z l = h z
      last t (there i) z l = g.last t i z l

  none_more : (r : Record) (p : Past) → k (r ∷ p) ≡ false → ((t : Past) → t ∈ p → k t ≡ false) → (t : Past) → t ∈ r ∷ p → k t ≡ false
  none_more r p n h t here = n
  none_more r p n h t (there i) = h t i

  greatest-next : (r : Record) (p g : Past) → k (r ∷ p) ≡ true → ((g ≡ []) × ((t : Past) → t ∈ p → k t ≡ false)) ⊎ Greatest k f p g
      → f [] ≡ 0 → Greatest k f (r ∷ p) (cond (leb (f g) (f (r ∷ p))) (r ∷ p) g)
  greatest-next r p g y (inl w) z =
      let e : f g ≡ 0 = ap f w.0 ∙ z in
      rw (le-leb (f g) (f (r ∷ p)) (omega arith)) (greatest-new r p y (λ t i u. never u (w.1 t i)))
  greatest-next r p g y (inr w) z = ⊎_elim
      (λ (u : leb (f g) (f (r ∷ p)) ≡ true). rw u (greatest-new r p y (λ t i v. omega (arith, w.most t i v, leb-true))))
      (λ (u : leb (f g) (f (r ∷ p)) ≡ false). rw u (greatest-old r p g (λ _. leb-false _ _ u) w))
      (decide (leb (f g) (f (r ∷ p))))

  pub greatest-is : f [] ≡ 0 → (p : Past) → ((greatest k f p ≡ []) × ((t : Past) → t ∈ p → k t ≡ false)) ⊎ Greatest k f p (greatest k f p)
  greatest-is z [] = inl (refl, λ t i. absurd (omega (arith, some i)))
  greatest-is z (r ∷ p) = ⊎_elim
      (λ (y : k (r ∷ p) ≡ true). inr (rw y (greatest-next r p (greatest k f p) y (greatest-is z p) z)))
      (λ (n : k (r ∷ p) ≡ false). ⊎_elim
      (λ w. inl (rw n w.0, none_more r p n w.1))
      (λ w. inr (rw n (greatest-old r p (greatest k f p) (λ u. never u n) w)))
      (greatest-is z p))
      (decide (k (r ∷ p)))

  -- there is one such number
  pub greatest-one : {p s t : Past} → Greatest k f p s → Greatest k f p t → number s ≡ number t
  greatest-one {s = s} {t = t} g h =
      let a : ¬ (number s < number t) = λ l. let u = g.last t h.event h.kind l in let v = h.most s g.event g.kind in omega arith in
      let b : ¬ (number t < number s) = λ l. let u = h.last s g.event g.kind l in let v = g.most t h.event h.kind in omega arith in
      omega arith
