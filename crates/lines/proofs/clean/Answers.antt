-- The words of a clean verdict, one after the other.
-- Assumes nothing.
use native.Mathlib.Omega.{arith}
use Rattle.lines.specs.Line.{clean_words}
use Rattle.lines.proofs.Texts.{more}
use Rattle.lines.proofs.clean.Goals as goal

pub returns : goal.returns
unfolding clean_words
returns c =
    record {
      upper_bound = omega arith;
      put = more
          (more c.put-word.ensures c.number-records.ensures.put)
          c.number.ensures.put;
    }
