-- The first byte, if there is one, has the first four bits.
-- Assumes nothing.
use Prim.Native.Nat.{ℕ}
use native.Mathlib.Omega.{arith}
use mathlib.Core.List.{List, [], ◌∷◌}
use mathlib.Core.Path.{◌≡◌, refl}
use lib.ListN.{length}
use Rattle.header.specs.Bytes.{edition_for}
use borrow.Author.Tests.{eq-eqb, ne_eqb}
use Rattle.header.proofs.opening.edition_for.Goals as goal

none : (bs : List ℕ) → length bs ≡ 0 → 1 ≡ edition_for bs
unfolding edition_for
none [] e = refl
none (b ∷ bs) e = absurd (omega arith)

pub returns-then-bytes-eq0 : goal.returns-then-bytes-eq0
returns-then-bytes-eq0 c = none _ c.if-bytes-eq0.true

pub returns-then-bytes-eq2 : goal.returns-then-bytes-eq2
unfolding edition_for
returns-then-bytes-eq2 c = rw (eq-eqb _ _ c.if-bytes-eq2.true)

pub returns : goal.returns
unfolding edition_for
returns c = rw (ne_eqb _ _ c.if-bytes-eq2.false)
