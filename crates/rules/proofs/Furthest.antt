-- The latest edge that any event of a past asks for: that of the latest event, of the greatest start, of the fourth ACT back.
-- Assumes nothing.
use Prim.Native.Nat.{ℕ, zero, suc, ◌+◌, ◌≤◌, ◌<◌}
use native.Mathlib.Omega.{arith}
use mathlib.Core.Path.{◌≡◌, refl, sym, ap, ◌∙◌}
use mathlib.Core.Logic.{⊎_elim}
use mathlib.Core.Bool.{Bool, true, false}
use mathlib.Core.List.{[], ◌∷◌}
use lib.Dec.{leb}
use borrow.Author.Tests.{leb-true, leb-false}
use Rattle.records.specs.declared.Command.TheVariants.{Act}
use Rattle.chip.specs.declared.Chip.{Chip}
use Rattle.running.specs.declared.Mark.{Mark}
use Rattle.running.specs.Waits.{ends}
use Rattle.rules.specs.Past.{Past, edge, is, ◌∈◌, here, there, latest, back, greatest}
use Rattle.rules.specs.Banks.{start}
use Rattle.rules.specs.Waiting.{Ask, furthest, by_start, after_fourth, by_fourth}
use Rattle.rules.proofs.Generic.{decide, Dominated}
use Rattle.rules.proofs.Events.{back-edge}
use Rattle.rules.proofs.Starts.{start_none}
use Rattle.rules.proofs.Summary.{mark, start_mark}

-- ── Any ask ─────────────────────────────────────────────────────────────────────────────────

module _ (a : Ask) where
  -- at the edge e no event of p asks any more
  abbrev pub Met : ℕ → Past → Type 0
  Met e p = (s : Past) → s ∈ p → a.who s ≡ true → a.until s ≤ e

  pub met : (e : ℕ) (p : Past) → furthest a p ≤ e → Met e p
  met e [] h s x3 y = elim x3 [ ]
  met e (r ∷ p) h s here y = let k = rw y at h in omega arith
  met e (r ∷ p) h s (there i) y = met e p (omega arith) s i y

  pub met-furthest : (e : ℕ) (p : Past) → Met e p → furthest a p ≤ e
  met-furthest e [] h = omega arith
  met-furthest e (r ∷ p) h =
      let rest = met-furthest e p (λ s i. h s (there i)) in
      ⊎_elim
      (λ (y : a.who (r ∷ p) ≡ true). rw y (let k = h (r ∷ p) here y in omega arith))
      (λ (n : a.who (r ∷ p) ≡ false). rw n (omega arith))
      (decide (a.who (r ∷ p)))

-- ── The latest event ────────────────────────────────────────────────────────────────────────

-- an ask from an edge of the event
abbrev pub asks_from : (from : Past → ℕ) (who : Past → Bool) (need : Past → ℕ) → Ask
asks_from from who need = record { who = who; until = λ s. from s + need s }

-- until when the event asks; 0 of none
abbrev pub until_of : Ask → Past → ℕ
until_of a [] = 0
until_of a (r ∷ p) = a.until (r ∷ p)

-- where each event asks for as late an edge as any before it, the latest asks for the latest
pub furthest-latest : (from : Past → ℕ) (who : Past → Bool) (need : Past → ℕ) (p : Past) → Dominated from who need p
    → furthest (asks_from from who need) p ≡ until_of (asks_from from who need) (latest who p)
furthest-latest from who need [] d = refl
furthest-latest from who need (r ∷ p) d = ⊎_elim
    (λ (y : who (r ∷ p) ≡ true).
    rw y (let k = met-furthest (asks_from from who need) (from (r ∷ p) + need (r ∷ p)) p (λ s i z. d (r ∷ p) s here i y z) in omega arith))
    (λ (n : who (r ∷ p) ≡ false).
    rw n (let k = furthest-latest from who need p (λ s t i. d s t (there i)) in omega arith))
    (decide (who (r ∷ p)))

-- so its mark ends there
pub ends-furthest : (who : Past → Bool) (need : Past → ℕ) (p : Past) (m : Mark) → m ≡ mark need (latest who p) → Dominated edge who need p
    → ends m ≡ furthest (asks_from edge who need) p
ends-furthest who need p m e d = ap ends e ∙ go (latest who p) ∙ sym (furthest-latest edge who need p d)
  where
    go : (s : Past) → ends (mark need s) ≡ until_of (asks_from edge who need) s
    go [] = refl
    go (r ∷ s) = refl

module _ (C : Chip) where
  -- ── The greatest start ────────────────────────────────────────────────────────────────────

  ends-most : (g : Past) → ends (start_mark C g) ≤ start C g + C.trp
  ends-most [] = omega arith
  ends-most (r ∷ g) = omega arith

  ends-past : (g : Past) (n : ℕ) → n < start C g → n + C.trp ≤ ends (start_mark C g)
  ends-past [] n l = absurd (omega (arith, start_none C))
  ends-past (r ∷ g) n l = omega arith

  pub furthest-start : (who : Past → Bool) (p : Past) → ends (start_mark C (greatest who (start C) p)) ≡ furthest (by_start C who) p
  furthest-start who [] = refl
  furthest-start who (r ∷ p) =
      let g = greatest who (start C) p in
      let k = furthest-start who p in
      ⊎_elim
      (λ (y : who (r ∷ p) ≡ true). rw y (⊎_elim
      (λ (u : leb (start C g) (start C (r ∷ p)) ≡ true). rw u (omega (arith, leb-true, ends-most g)))
      (λ (u : leb (start C g) (start C (r ∷ p)) ≡ false). rw u (omega (arith, ends-past g (start C (r ∷ p)) (leb-false _ _ u))))
      (decide (leb (start C g) (start C (r ∷ p))))))
      (λ (n : who (r ∷ p) ≡ false). rw n (omega arith))
      (decide (who (r ∷ p)))

  -- ── The fourth ACT back ───────────────────────────────────────────────────────────────────

  after-most : (g : Past) → after_fourth C g ≤ edge g + C.tfaw
  after-most [] = omega arith
  after-most (r ∷ g) = omega arith

  -- further back is no later
  after-back : (k : Past → Bool) (n : ℕ) (p : Past) → after_fourth C (back k (suc n) p) ≤ after_fourth C (back k n p)
  after-back k n [] = omega arith
  after-back k zero (r ∷ p) = ⊎_elim
      (λ (y : k (r ∷ p) ≡ true). rw y (omega (arith, after-most (back k zero p), back-edge k zero p)))
      (λ (z : k (r ∷ p) ≡ false). rw z (after-back k zero p))
      (decide (k (r ∷ p)))
  after-back k (suc n) (r ∷ p) = ⊎_elim
      (λ (y : k (r ∷ p) ≡ true). rw y (after-back k n p))
      (λ (z : k (r ∷ p) ≡ false). rw z (after-back k (suc n) p))
      (decide (k (r ∷ p)))

  pub furthest-fourth : (p : Past) → after_fourth C (back (is Act) 3 p) ≡ furthest (by_fourth C) p
  furthest-fourth [] = refl
  furthest-fourth (r ∷ p) =
      let k = furthest-fourth p in
      ⊎_elim
      (λ (y : is Act (r ∷ p) ≡ true). rw y (omega (arith, after-back (is Act) 2 p)))
      (λ (n : is Act (r ∷ p) ≡ false). rw n (omega arith))
      (decide (is Act (r ∷ p)))
