-- What the C functions answer and leave in the lent bytes: 01, "The logger's C firmware calls whole-recording judging, register
-- reading and burst order with numbers and byte slices; success returns 0."
-- Assumes nothing.
use Rattle.std.specs.Prelude.{ℕ, ◌≡◌, true, false, cond, List, ◌++◌, eqb, length}
use Rattle.laws.specs.Lent.{Wrote}
use Rattle.header.specs.Bytes.{edition_for}
use Rattle.moves.specs.Promises.{Widen, Narrow}
use Rattle.registers.specs.Promises.{Read}
use Rattle.bursts.specs.Burst.{code_of, order_of}
use Rattle.answers.specs.declared.Verdict.{Verdict}
use Rattle.answers.specs.Answer.{verdict_bytes}
use Rattle.sections.specs.Recording.{judge_code, whole_refusal, whole_verdict}

-- "register reading 9, 1, 2, 3, 4, 11", and six bytes
abbrev pub Register : (header : List ℕ) (number code : ℕ) (before : List ℕ) (r : ℕ) (after : List ℕ) → Type 0
Register header number code before r after = Read header number code before r after

-- "burst order 10, 9", and one byte a word
abbrev pub Burst : (n start kind direction : ℕ) (before : List ℕ) (r : ℕ) (after : List ℕ) → Type 0
Burst n start kind direction before r after = Wrote (code_of n start (length before)) (order_of n start kind direction) before r after

-- 02, Q-7: a move checks 1, 2, 3, 4, 5, 7, 6, 14, 13, 9 "and writes nothing when refused"; then the moved recording
abbrev pub Widening : (recording before : List ℕ) (r : ℕ) (after : List ℕ) → Type 0
Widening recording before r after = Widen recording before r after

abbrev pub Narrowing : (recording before : List ℕ) (r : ℕ) (after : List ℕ) → Type 0
Narrowing recording before r after = Narrow recording before r after

-- the 20 bytes of the verdict by the 31 rules; of edition 2 "one verdict per rank (40 bytes, first rank first)"
unfoldable pub answer_bytes : (recording : List ℕ) (end : ℕ) → List ℕ
answer_bytes bs end =
    cond (eqb (edition_for bs) 2)
    (verdict_bytes (whole_verdict false bs end) ++ verdict_bytes (whole_verdict true bs end))
    (verdict_bytes (whole_verdict false bs end))

-- "Judging a whole recording checks 9, 1, 2, 3, 4, 5, 7, 6, 14, 8", and the bytes of the answer
abbrev pub Judge : (recording : List ℕ) (end : ℕ) (before : List ℕ) (r : ℕ) (after : List ℕ) → Type 0
Judge recording end before r after =
    Wrote (judge_code recording end (length before)) (answer_bytes recording end) before r after

-- the refusal of a whole recording, or 0 and the verdict; of edition 2 the second rank's too
pub record Judged (recording : List ℕ) (end refused : ℕ) (verdict second : Verdict) : Type 0 where
  pub number : refused ≡ whole_refusal recording end
  pub found : refused ≡ 0 → verdict ≡ whole_verdict false recording end
  pub found-second : refused ≡ 0 → edition_for recording ≡ 2 → second ≡ whole_verdict true recording end
