-- Every cut of a recording between records is taken section by section, whatever refused sections are offered in between, and leads to
-- the state that the uncut recording leads to. One theorem for any machine that takes sections: the judge of either edition, and the tally.
-- Assumes nothing.
use Prim.Native.Nat.{ℕ}
use native.Mathlib.Decide.{ℕ_discrete}
use mathlib.Core.Bool.{Bool, cond}
use mathlib.Core.List.{List, [], ◌∷◌, ◌++◌, append-nil, append_assoc}
use mathlib.Core.Path.{◌≡◌, refl, sym, ap, ◌∙◌, subst}
use borrow.Author.Tests.{eq-eqb, ne_eqb}
use Rattle.laws.specs.Cuts as cuts
use Rattle.laws.specs.Cuts.{uncut, Each, Offer, part, other, offered, parts, whole}

-- Stands bs s: s is the state after the bytes bs. A section that is taken leads on, a refused one alters nothing.
module _ {S : Type 0} (section : S → List ℕ → S) (refused : S → List ℕ → ℕ) (Stands : List ℕ → S → Type 0)
    (takes : (bs : List ℕ) (s : S) → Stands bs s → (xs : List ℕ) → refused s xs ≡ 0 → Stands (bs ++ xs) (section s xs))
    (leaves : (bs : List ℕ) (s : S) → Stands bs s → (xs : List ℕ) → (refused s xs ≡ 0 → ⊥) → section s xs ≡ s) where
  abbrev run : S → List (List ℕ) → S
  run = cuts.run section

  abbrev taken : S → List (List ℕ) → List ℕ
  taken = cuts.taken section refused

  -- a section more, where x says that it is taken
  abbrev joined : (bs xs : List ℕ) → List (List ℕ) → S → Bool → List ℕ
  joined bs xs xss s x = bs ++ (cond x xs [] ++ taken (section s xs) xss)

  -- however the sections are cut, and whichever are refused
  pub stands-run : (xss : List (List ℕ)) (bs : List ℕ) (s : S) → Stands bs s → Stands (bs ++ taken s xss) (run s xss)
  stands-run [] bs s a = rw (append-nil bs) a
  stands-run (xs ∷ xss) bs s a = elim (ℕ_discrete (refused s xs) 0) [
    | yes q ↦
        subst (λ ys. Stands ys (run (section s xs) xss))
        (append_assoc bs xs (taken (section s xs) xss) ∙ ap (joined bs xs xss s) (sym (eq-eqb _ _ q)))
        (stands-run xss (bs ++ xs) (section s xs) (takes bs s a xs q))
    | no q ↦
        subst (λ ys. Stands ys (run (section s xs) xss)) (ap (joined bs xs xss s) (sym (ne_eqb _ _ q)))
        (stands-run xss bs (section s xs) (subst (Stands bs) (sym (leaves bs s a xs q)) a))
  ]

  -- Fits bs xs: after bs the section xs is taken. Even xs: it ends between records. What fits, cut between records, fits part by part.
  module _ (Fits : (bs xs : List ℕ) → Type 0) (Even : List ℕ → Type 0)
      (fits : (bs : List ℕ) (s : S) → Stands bs s → (xs : List ℕ) → Fits bs xs → refused s xs ≡ 0)
      (cut : (bs : List ℕ) (s : S) → Stands bs s → (xs ys : List ℕ) → Even xs → Fits bs (xs ++ ys) → Fits bs xs × Fits (bs ++ xs) ys) where
    -- no part is refused, and what is taken is the recording
    pub every-cut :
        (os : List Offer) (bs : List ℕ) (s : S) → Stands bs s → Each Even (parts os) → Fits bs (whole os) → cuts.Spare section refused s os
        → cuts.Goes section refused s os × (taken s (offered os) ≡ whole os)
    every-cut [] bs s a even f spare = (tt, refl)
    every-cut (part xs ∷ os) bs s a even f spare =
        let w = cut bs s a xs (whole os) even.0 f in
        let r = fits bs s a xs w.0 in
        let ih = every-cut os (bs ++ xs) (section s xs) (takes bs s a xs r) even.1 w.1 spare in
        ((r, ih.0), λ i. cond (eq-eqb (refused s xs) 0 r i) xs [] ++ ih.1 i)
    every-cut (other xs ∷ os) bs s a even f spare =
        let b = subst (Stands bs) (sym (leaves bs s a xs spare.0)) a in
        let ih = every-cut os bs (section s xs) b even f spare.1 in
        (ih.0, λ i. cond (ne_eqb (refused s xs) 0 spare.0 i) xs [] ++ ih.1 i)

    -- the state is that of the recording in one section
    pub cut-same :
        ((bs : List ℕ) (s t : S) → Stands bs s → Stands bs t → s ≡ t)
        → (os : List Offer) (s : S) → Stands [] s → Each Even (parts os) → Fits [] (whole os) → cuts.Spare section refused s os
        → run s (offered os) ≡ section s (whole os)
    cut-same same os s a even f spare =
        same (whole os) _ _
        (subst (λ bs. Stands bs (run s (offered os))) (every-cut os [] s a even f spare).1 (stands-run (offered os) [] s a))
        (takes [] s a (whole os) (fits [] s a (whole os) f))
