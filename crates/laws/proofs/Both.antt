-- What two tests tell together.
-- Assumes nothing.
use mathlib.Core.Bool.{Bool, true, false, ◌&&◌, ◌||◌, true≢false}
use mathlib.Core.Path.{◌≡◌, refl, sym}

pub both : (b x : Bool) → b && x ≡ true → (b ≡ true) × (x ≡ true)
both true x h = (refl, h)
both false x h = absurd (true≢false (sym h))

pub neither : (b x : Bool) → b || x ≡ false → (b ≡ false) × (x ≡ false)
neither true x h = absurd (true≢false h)
neither false x h = (refl, h)
