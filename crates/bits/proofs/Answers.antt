-- One answer for the public contract.
-- Assumes nothing.
use Rattle.std.proofs.Common.{ℕ, List}
use Rattle.laws.proofs.Unique.{Unique, one_answer}
use Rattle.bits.specs.Bits.{word_of}
use Rattle.bits.specs.Promises.{Word}

pub word-unique : (six : List ℕ) → Unique (Word six)
word-unique six = one_answer (word_of six)
