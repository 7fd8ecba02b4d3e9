-- The bytes of each number.
-- Assumes nothing.
use native.Mathlib.Nat.{div-one}
use Rattle.answers.specs.Answer.{verdict_bytes}
use Rattle.answers.proofs.report.verdict_bytes.Goals as goal

pub returns : goal.returns
unfolding verdict_bytes
returns c =
    simp (
      c.to_be_bytes.ensures,
      c.to_be_bytes-2.ensures,
      c.to_be_bytes-3.ensures,
      c.to_be_bytes-4.ensures,
      c.to_be_bytes-5.ensures,
      c.to_be_bytes-6.ensures,
      c.to_be_bytes-7.ensures,
      div-one,
    )
