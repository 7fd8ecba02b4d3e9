-- One answer for each public contract of the header, and the number of each answer of parsing.
-- Assumes nothing.
use Prim.Native.Nat.{ℕ}
use mathlib.Core.Path.{◌≡◌, refl}
use mathlib.Core.Bool.{Bool, true, false, cond, ◌&&◌, ◌||◌}
use mathlib.Core.List.{List}
use lib.ListN.{length}
use lib.Dec.{eqb, ltb}
use Rattle.laws.proofs.Unique.{Unique, one_answer}
use Rattle.units.specs.declared.Clocks.{Clocks}
use Rattle.header.specs.declared.Header.{Header}
use Rattle.header.specs.Bytes.{edition_for, parsed_of, header_refusal, header_word, header_of, fields_refusal, answer, edition, zero_a, zero_b, bin, period}
use Rattle.header.specs.Bins.{bin_of}
use Rattle.refusals.specs.Refusals.{number_in}
use Rattle.header.specs.Promises.{Parse, EditionFor, Counted}

pub parse-unique : (bytes : List ℕ) (edition : ℕ) → Unique (Parse bytes edition)
parse-unique bytes edition = one_answer (parsed_of edition bytes)

pub edition-for-unique : (bytes : List ℕ) → Unique (EditionFor bytes)
edition-for-unique bytes = one_answer (edition_for bytes)

-- of every clock count, t_rcd to t_refi
pub count-unique : (count : Header → Clocks) (h : Header) → Unique (Counted count h)
count-unique count h = one_answer (count h)

-- the refusal's number is the check's
pub number_is : (e : ℕ) (bytes : List ℕ) → number_in (parsed_of e bytes) ≡ header_refusal e bytes
unfolding parsed_of header_refusal fields_refusal
number_is e bytes = go (eqb (length bytes) 6) (eqb (edition w) e) (eqb (zero_a w) 0 && eqb (zero_b w) 0) (ltb (period w) (bin_of (bin w)).least || ltb 3300 (period w))
  where
    w : ℕ
    w = header_word bytes

    go : (a b c d : Bool) → number_in (answer (cond a (cond b (cond c (cond d 4 0) 3) 2) 1) (header_of w)) ≡ cond a (cond b (cond c (cond d 4 0) 3) 2) 1
    go true true true true = refl
    go true true true false = refl
    go true true false d = refl
    go true false c d = refl
    go false b c d = refl
