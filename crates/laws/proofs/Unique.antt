-- Two answers that a contract allows are equal.
-- Assumes nothing.
use mathlib.Core.Path.{◌≡◌, sym, ◌∙◌}

-- the contract Allows, of an answer, allows one answer
abbrev pub Unique : {A : Type 0} → (A → Type 0) → Type 0
Unique {A} Allows = (x y : A) → Allows x → Allows y → x ≡ y

-- an answer that is said to equal a definition is the only one
pub one_answer : {A : Type 0} (definition : A) → Unique (λ (x : A). x ≡ definition)
one_answer definition x y p q = p ∙ sym q
