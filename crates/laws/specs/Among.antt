-- One of a list.
-- Assumes nothing.
use Rattle.std.specs.Prelude.{List, ◌∷◌}

-- f is one of fs
pub data Among {A : Type 0} (f : A) : List A → Type 0 where
  first : {fs : List A} → Among f (f ∷ fs)
  next : {g : A} {fs : List A} → Among f fs → Among f (g ∷ fs)
