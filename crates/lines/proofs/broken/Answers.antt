-- The words of a broken verdict, one after the other.
-- Assumes nothing.
use native.Mathlib.Omega.{arith}
use Rattle.lines.specs.Line.{broken_words}
use Rattle.lines.proofs.Texts.{more}
use Rattle.lines.proofs.broken.Goals as goal

pub returns : goal.returns
unfolding broken_words
returns c = record { upper_bound = omega arith; put = (more (more (more (more (more (more c.put-word.ensures c.number-rule.ensures.put) c.number-record.ensures.put) c.number-partner.ensures.put) c.number-edge.ensures.put) c.number-needed.ensures.put) c.number.ensures.put) }
