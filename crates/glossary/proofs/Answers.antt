-- One answer for each public contract: a level's digit; the row at a place, of a kind, and with its count.
-- Assumes nothing.
use Prim.Native.Nat.{ℕ}
use mathlib.Core.List.{List}
use Rattle.laws.proofs.Unique.{Unique, one_answer}
use Rattle.glossary.specs.declared.Level.{Level}
use Rattle.glossary.specs.Glossary.{pin_of, row_of, place_of, line_of}
use Rattle.glossary.specs.Promises.{PinOf, RowAt, RowOf, LineAt}

pub pin-unique : (level : Level) → Unique (PinOf level)
pin-unique level = one_answer (pin_of level)

pub row-unique : (place : ℕ) → Unique (RowAt place)
row-unique place = one_answer (row_of place)

pub of-unique : (kind : ℕ) → Unique (RowOf kind)
of-unique kind = one_answer (row_of (place_of kind))

pub line-unique : (place : ℕ) (counts : List ℕ) → Unique (LineAt place counts)
line-unique place counts = one_answer (line_of place counts)
