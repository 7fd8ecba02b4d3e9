-- Any machine that takes sections in turn, each taken or refused as one, and a recording cut anywhere between records, with refused
-- sections in between: 01, the third demand. section: the state after a section; refused: its refusal, 0 where it is taken.
-- Assumes nothing.
use Rattle.std.specs.Prelude.{ℕ, cond, List, [], ◌∷◌, ◌++◌, ◌≡◌, eqb}

-- ── Sections in turn ────────────────────────────────────────────────────────────────────────

-- the state after the sections, offered in turn
abbrev pub run : {S : Type 0} (section : S → List ℕ → S) → S → List (List ℕ) → S
run section s [] = s
run section s (xs ∷ xss) = run section (section s xs) xss

-- the bytes of those that are taken, one after the other
abbrev pub taken : {S : Type 0} (section : S → List ℕ → S) (refused : S → List ℕ → ℕ) → S → List (List ℕ) → List ℕ
taken section refused s [] = []
taken section refused s (xs ∷ xss) = cond (eqb (refused s xs) 0) xs [] ++ taken section refused (section s xs) xss

-- all of their bytes
abbrev pub uncut : List (List ℕ) → List ℕ
uncut [] = []
uncut (xs ∷ xss) = xs ++ uncut xss

-- each of them is as E says
abbrev pub Each : (E : List ℕ → Type 0) → List (List ℕ) → Type 0
Each E [] = Unit
Each E (xs ∷ xss) = E xs × Each E xss

-- ── A recording that is cut ─────────────────────────────────────────────────────────────────

-- a section that is offered: a part of the recording, or another
pub data Offer : Type 0 where
  part : List ℕ → Offer
  other : List ℕ → Offer

-- all of them, in turn
abbrev pub offered : List Offer → List (List ℕ)
offered [] = []
offered (part xs ∷ os) = xs ∷ offered os
offered (other xs ∷ os) = xs ∷ offered os

-- the parts
abbrev pub parts : List Offer → List (List ℕ)
parts [] = []
parts (part xs ∷ os) = xs ∷ parts os
parts (other xs ∷ os) = parts os

-- put together
abbrev pub whole : List Offer → List ℕ
whole os = uncut (parts os)

-- each other section is refused where it is offered
abbrev pub Spare : {S : Type 0} (section : S → List ℕ → S) (refused : S → List ℕ → ℕ) → S → List Offer → Type 0
Spare section refused s [] = Unit {0}
Spare section refused s (part xs ∷ os) = Spare section refused (section s xs) os
Spare section refused s (other xs ∷ os) = (refused s xs ≡ 0 → ⊥) × Spare section refused (section s xs) os

-- each part is taken
abbrev pub Goes : {S : Type 0} (section : S → List ℕ → S) (refused : S → List ℕ → ℕ) → S → List Offer → Type 0
Goes section refused s [] = Unit {0}
Goes section refused s (part xs ∷ os) = (refused s xs ≡ 0) × Goes section refused (section s xs) os
Goes section refused s (other xs ∷ os) = Goes section refused (section s xs) os
