-- What a C caller may rely on: a refusal leaves every byte, later bytes stay, and two answers to one call are equal.
-- Assumes nothing.
use Prim.Native.Nat.{ℕ}
use mathlib.Core.Path.{◌≡◌}
use native.Mathlib.Omega.{arith}
use mathlib.Core.Bool.{Bool, true, false, cond}
use mathlib.Core.List.{List, ◌++◌}
use lib.Dec.{eqb}
use lib.ListN.{length, drop, length-append}
use Rattle.laws.proofs.Lent as lent
use Rattle.bursts.proofs.Answers.{length-order}
use Rattle.registers.proofs.Answers.{later-kept}
use Rattle.header.specs.Bytes.{edition_for}
use Rattle.answers.specs.Answer.{verdict_bytes}
use Rattle.answers.proofs.Answers.{twenty}
use Rattle.sections.specs.Recording.{needed, whole_verdict}
use Rattle.firmware.specs.Calls.{answer_bytes, Judge, Register, Burst, Widening, Narrowing}

-- the bytes that 9 asks for are those of the answer
answer-needs : (bs : List ℕ) (end : ℕ) → length (answer_bytes bs end) ≡ needed bs
unfolding answer_bytes
answer-needs bs end = go (eqb (edition_for bs) 2)
  where
    go : (x : Bool) → length (cond x (verdict_bytes (whole_verdict false bs end) ++ verdict_bytes (whole_verdict true bs end)) (verdict_bytes (whole_verdict false bs end))) ≡ cond x 40 20
    go true =
        omega (arith, length-append (verdict_bytes (whole_verdict false bs end)) (verdict_bytes (whole_verdict true bs end)), twenty (whole_verdict false bs end), twenty (whole_verdict true bs end))
    go false = twenty (whole_verdict false bs end)

module _ (recording : List ℕ) (end : ℕ) (before : List ℕ) where
  module _ (r : ℕ) (after : List ℕ) (call : Judge recording end before r after) where
    pub judge-refused-keeps-all : (r ≡ 0 → ⊥) → after ≡ before
    judge-refused-keeps-all = lent.refused-keeps-all _ _ _ r after call

    pub judge-later-bytes-kept : drop (needed recording) after ≡ drop (needed recording) before
    judge-later-bytes-kept = rw (answer-needs recording end) at (lent.later-bytes-kept _ _ _ r after call)

  pub judge-unique :
      {r r' : ℕ} {after after' : List ℕ} → Judge recording end before r after → Judge recording end before r' after'
      → (r ≡ r') × (after ≡ after')
  judge-unique one other = lent.same_answer one other

module _ (header : List ℕ) (number code : ℕ) (before : List ℕ) where
  module _ (r : ℕ) (after : List ℕ) (call : Register header number code before r after) where
    pub register-refused-keeps-all : (r ≡ 0 → ⊥) → after ≡ before
    register-refused-keeps-all = lent.refused-keeps-all _ _ _ r after call

    pub register-later-bytes-kept : drop 6 after ≡ drop 6 before
    register-later-bytes-kept = later-kept header number code before r after call

  pub register-unique :
      {r r' : ℕ} {after after' : List ℕ} → Register header number code before r after → Register header number code before r' after'
      → (r ≡ r') × (after ≡ after')
  register-unique one other = lent.same_answer one other

module _ (n start kind direction : ℕ) (before : List ℕ) where
  module _ (r : ℕ) (after : List ℕ) (call : Burst n start kind direction before r after) where
    pub burst-refused-keeps-all : (r ≡ 0 → ⊥) → after ≡ before
    burst-refused-keeps-all = lent.refused-keeps-all _ _ _ r after call

    pub burst-later-bytes-kept : drop n after ≡ drop n before
    burst-later-bytes-kept = rw length-order at (lent.later-bytes-kept _ _ _ r after call)

  pub burst-unique :
      {r r' : ℕ} {after after' : List ℕ} → Burst n start kind direction before r after → Burst n start kind direction before r' after'
      → (r ≡ r') × (after ≡ after')
  burst-unique one other = lent.same_answer one other

module _ (recording before : List ℕ) where
  pub widening-refused-keeps-all : (r : ℕ) (after : List ℕ) → Widening recording before r after → (r ≡ 0 → ⊥) → after ≡ before
  widening-refused-keeps-all r after call = lent.refused-keeps-all _ _ _ r after call

  pub narrowing-refused-keeps-all : (r : ℕ) (after : List ℕ) → Narrowing recording before r after → (r ≡ 0 → ⊥) → after ≡ before
  narrowing-refused-keeps-all r after call = lent.refused-keeps-all _ _ _ r after call

  pub widening-unique :
      {r r' : ℕ} {after after' : List ℕ} → Widening recording before r after → Widening recording before r' after' → (r ≡ r') × (after ≡ after')
  widening-unique one other = lent.same_answer one other

  pub narrowing-unique :
      {r r' : ℕ} {after after' : List ℕ} → Narrowing recording before r after → Narrowing recording before r' after' → (r ≡ r') × (after ≡ after')
  narrowing-unique one other = lent.same_answer one other
