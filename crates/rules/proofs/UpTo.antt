-- Records up to an edge.
-- Assumes nothing.
use Prim.Native.Nat.{ℕ, ◌-◌, ◌≤◌, ◌<◌}
use native.Mathlib.Omega.{arith}
use mathlib.Core.Path.{◌≡◌, refl, ◌∙◌}
use mathlib.Core.Logic.{⊎_elim}
use mathlib.Core.Bool.{true, false}
use mathlib.Core.List.{[], ◌∷◌}
use lib.Dec.{leb}
use borrow.Author.Tests.{leb-true, le-leb, lt-leb}
use Rattle.records.specs.declared.Record.{Record}
use Rattle.rules.specs.Past.{Past, edge, up_to}
use Rattle.rules.specs.Verdict.{Apart}
use Rattle.rules.proofs.Generic.{decide}

-- all of them from the latest on, and not the latest before it
pub up-to-all : (t : ℕ) (p : Past) → edge p ≤ t → up_to t p ≡ p
up-to-all t [] h = refl
up-to-all t (r ∷ p) h = rw (le-leb (edge (r ∷ p)) t h)

pub up-to-skip : (t : ℕ) (r : Record) (p : Past) → t < edge (r ∷ p) → up_to t (r ∷ p) ≡ up_to t p
up-to-skip t r p h = rw (lt-leb (edge (r ∷ p)) t h)

pub up-to-before : (r : Record) (p : Past) (t : ℕ) → edge p < t → t ≤ edge (r ∷ p) → up_to (t - 1) (r ∷ p) ≡ p
up-to-before r p t l m = up-to-skip (t - 1) r p (omega arith) ∙ up-to-all (t - 1) p (omega arith)

pub up-to-edge : (t : ℕ) (p : Past) → edge (up_to t p) ≤ t
up-to-edge t [] = omega arith
up-to-edge t (r ∷ p) = ⊎_elim
    (λ (y : leb (edge (r ∷ p)) t ≡ true). rw y (leb-true (edge (r ∷ p)) t y))
    (λ (n : leb (edge (r ∷ p)) t ≡ false). rw n (up-to-edge t p))
    (decide (leb (edge (r ∷ p)) t))

-- before edge 1 there is no record
pub up_to_zero : (p : Past) → Apart p → up_to 0 p ≡ []
up_to_zero [] a = refl
up_to_zero (r ∷ p) a = up-to-skip 0 r p (omega (arith, a.0)) ∙ up_to_zero p a.1

pub apart-up-to : (t : ℕ) (p : Past) → Apart p → Apart (up_to t p)
apart-up-to t [] a = a
apart-up-to t (r ∷ p) a = ⊎_elim
    (λ (y : leb (edge (r ∷ p)) t ≡ true). rw y a)
    (λ (n : leb (edge (r ∷ p)) t ≡ false). rw n (apart-up-to t p a.1))
    (decide (leb (edge (r ∷ p)) t))
