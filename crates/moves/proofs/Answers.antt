-- One answer for each public contract, and what a caller may rely on.
-- Assumes nothing.
use Rattle.std.proofs.Common.{◌≡◌, ℕ, List, length, drop}
use Rattle.laws.proofs.Lent.{refused-keeps-all, later-bytes-kept, same_answer}
use Rattle.laws.proofs.Unique.{Unique, one_answer}
use Rattle.moves.specs.declared.Check.{Check}
use Rattle.moves.specs.Moves.{widened, narrowed}
use Rattle.moves.specs.Check.{begun_of, over_of, refusal_of, outcome_of}
use Rattle.moves.specs.Promises.{Widen, Narrow, Begun, Over, Refusal, Outcome}

module _ (bs : List ℕ) {before after after' : List ℕ} {r r' : ℕ} where
  pub widen-unique : Widen bs before r after → Widen bs before r' after' → (r ≡ r') × (after ≡ after')
  widen-unique one other = same_answer one other

  pub narrow-unique : Narrow bs before r after → Narrow bs before r' after' → (r ≡ r') × (after ≡ after')
  narrow-unique one other = same_answer one other

pub begun-unique : (header : List ℕ) (edition : ℕ) → Unique (Begun header edition)
begun-unique header edition = one_answer (begun_of edition header)

pub over-unique : (c : Check) (bytes : List ℕ) → Unique (Over c bytes)
over-unique c bytes = one_answer (over_of c bytes)

pub refusal-unique : (c : Check) → Unique (Refusal c)
refusal-unique c = one_answer (refusal_of c)

pub outcome-unique : (c : Check) → Unique (Outcome c)
outcome-unique c = one_answer (outcome_of c)

-- "writes nothing when refused"; "Later bytes of the buffer keep their values"
module _ (bs before after : List ℕ) (r : ℕ) where
  pub widen-refused-keeps-all : Widen bs before r after → (r ≡ 0 → ⊥) → after ≡ before
  widen-refused-keeps-all call = refused-keeps-all _ _ _ r after call

  pub widen-later-bytes-kept : Widen bs before r after → drop (length (widened bs)) after ≡ drop (length (widened bs)) before
  widen-later-bytes-kept call = later-bytes-kept _ _ _ r after call

  pub narrow-refused-keeps-all : Narrow bs before r after → (r ≡ 0 → ⊥) → after ≡ before
  narrow-refused-keeps-all call = refused-keeps-all _ _ _ r after call

  pub narrow-later-bytes-kept : Narrow bs before r after → drop (length (narrowed bs)) after ≡ drop (length (narrowed bs)) before
  narrow-later-bytes-kept call = later-bytes-kept _ _ _ r after call
