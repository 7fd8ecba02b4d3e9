-- Rule 8 looks at the fourth ACT back alone: that is to search it and every older ACT.
-- Assumes nothing.
use Prim.Native.Nat.{ℕ, zero, suc, ◌≤◌}
use mathlib.Core.Bool.{Bool, true, false}
use mathlib.Core.List.{[], ◌∷◌}
use mathlib.Core.Logic.{⊎_elim}
use mathlib.Core.Path.{◌≡◌, refl, ap, sym, ◌∙◌}
use Rattle.records.specs.declared.Command.TheVariants.{Act}
use Rattle.chip.specs.declared.Chip.{Chip}
use Rattle.rules.specs.Past.{Past, edge, is, latest, back}
use Rattle.rules.specs.Search.{look_back, asking}
use Rattle.rules.specs.Rules.{fourth}
use Rattle.rules.proofs.Generic.{decide, check_of, constant-latest-only}

-- the event found is of the kind, or there is none
found : (k : Past → Bool) (n : ℕ) (p : Past) → latest k (back k n p) ≡ back k n p
found k n [] = refl
found k zero (r ∷ p) = ⊎_elim (λ (y : k (r ∷ p) ≡ true). rw (y, y)) (λ (m : k (r ∷ p) ≡ false). rw m (found k zero p)) (decide (k (r ∷ p)))
found k (suc n) (r ∷ p) = ⊎_elim (λ (y : k (r ∷ p) ≡ true). rw y (found k n p)) (λ (m : k (r ∷ p) ≡ false). rw m (found k (suc n) p)) (decide (k (r ∷ p)))

one : (C : Chip) (e : ℕ) (p : Past) → fourth C e p ≡ check_of edge 8 e (λ _. C.tfaw) p
one C e [] = refl
one C e (r ∷ p) = refl

pub fourth-searches : (C : Chip) (e : ℕ) (p : Past) → edge (back (is Act) 3 p) ≤ e
    → fourth C e (back (is Act) 3 p) ≡ look_back edge 8 (asking (is Act) (λ _. C.tfaw)) e (back (is Act) 3 p)
fourth-searches C e p late =
    one C e (back (is Act) 3 p) ∙ ap (check_of edge 8 e (λ _. C.tfaw)) (sym (found (is Act) 3 p)) ∙ sym (constant-latest-only 8 e (is Act) C.tfaw (back (is Act) 3 p) late)
