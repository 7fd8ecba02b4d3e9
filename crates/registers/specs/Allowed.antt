-- The codes that are allowed under a header: 01, "Registers", "A field code not listed is not allowed."; and which field is not: 02, Q-5.
-- Assumes nothing.
use Rattle.std.specs.Prelude.{ℕ, Bool, cond, not, ◌&&◌, List, [], ◌∷◌, eqb, leb, ltb, Option, None, Some}
use Rattle.header.specs.declared.Header.{Header}
use Rattle.header.specs.Counts.{t_wr}
use Rattle.registers.specs.declared.permit.Span.{Span as Spanned}
use Rattle.codes.specs.Codes.{bits, bit, set, burst, cl, wr, rtt, cwl}

-- the periods and bins of a CAS latency
pub record Span : Type 0 where
  pub from : ℕ
  pub under : ℕ
  pub lowest : ℕ
  pub highest : ℕ

abbrev pub span : (from under lowest highest : ℕ) → Span
span f u l h = record { from = f; under = u; lowest = l; highest = h }

-- the same, as the code has them
abbrev pub span_as : Span → Spanned
span_as s = record { from = s.from; under = s.under; lowest = s.lowest; highest = s.highest }

-- "CL against period: 5 from 3000 to 3300 (not bin 3); 6 from 2500 to 3300; 7, 8 from 1875 to under 2500; 9, 10 from 1500 to under
-- 1875 (not bin 0); 11 from 1250 to under 1500 (bins 2, 3); 12 from 1070 to under 1250 (bin 3)"
unfoldable pub span_of : (cl : ℕ) → Span
span_of n =
    cond (eqb n 5) (span 3000 3301 0 2)
    (cond (eqb n 6) (span 2500 3301 0 3)
    (cond (eqb n 7) (span 1875 2500 0 3)
    (cond (eqb n 8) (span 1875 2500 0 3)
    (cond (eqb n 9) (span 1500 1875 1 3)
    (cond (eqb n 10) (span 1500 1875 1 3)
    (cond (eqb n 11) (span 1250 1500 2 3)
    (cond (eqb n 12) (span 1070 1250 3 3)
    (span 0 0 0 0))))))))

unfoldable pub cl_fits : Header → (cl : ℕ) → Bool
cl_fits h n =
    leb (span_of n).from h.period.ps && (ltb h.period.ps (span_of n).under
    && (leb (span_of n).lowest h.bin && leb h.bin (span_of n).highest))

-- "5 at 2500 and over, 6 from 1875, 7 from 1500, 8 from 1250, 9 from 1070, each to under the next"
unfoldable pub cwl_for : (period : ℕ) → ℕ
cwl_for p = cond (leb 2500 p) 5 (cond (leb 1875 p) 6 (cond (leb 1500 p) 7 (cond (leb 1250 p) 8 (cond (leb 1070 p) 9 0))))

-- a field of a code: the lowest of its address bits, and whether what it holds is allowed
pub record Field : Type 0 where
  pub low : ℕ
  pub ok : Bool

abbrev pub field : (low : ℕ) → (ok : Bool) → Field
field l o = record { low = l; ok = o }

-- Q-5: "each bit that must be 0 is its own field"
abbrev pub zero_at : (code low : ℕ) → Field
zero_at c k = field k (eqb (bit c k) 0)

-- A13 to A15, and A11 to A15, each 0
abbrev pub from13 : (code : ℕ) → List Field
from13 c = zero_at c 13 ∷ zero_at c 14 ∷ zero_at c 15 ∷ []

abbrev pub from11 : (code : ℕ) → List Field
from11 c = zero_at c 11 ∷ zero_at c 12 ∷ from13 c

-- The fields of each register that not every code fits, by their lowest bit. Q-5: "for a combination, its lowest bit".

-- "A1A0 .. CL .. A7 0 .. WR .. at least tWR's clocks .. A15..A13 0"
unfoldable pub table0 : Header → ℕ → List Field
table0 h c =
    field 0 (ltb (burst c) 3) ∷ field 2 (cl_fits h (cl c)) ∷ zero_at c 7 ∷ field 9 (leb (t_wr h).clocks (wr c))
    ∷ from13 c

-- "A0, A5, A7, A8, A10, A15..A13 0. AL .. A9A6A2 not 110 or 111. A11 0 on x16."
unfoldable pub table1 : Header → ℕ → List Field
table1 h c =
    zero_at c 0 ∷ field 2 (ltb (rtt c) 6) ∷ field 3 (ltb (bits c 3 2) 3) ∷ zero_at c 5 ∷ zero_at c 7 ∷ zero_at c 8 ∷ zero_at c 10
    ∷ field 11 (not (h.wide && set c 11)) ∷ from13 c

-- "CWL .. A8, A15..A11 0; A10A9 not 11; not both A6 and A7"
unfoldable pub table2 : Header → ℕ → List Field
table2 h c =
    field 3 (eqb (cwl c) (cwl_for h.period.ps)) ∷ field 6 (not (set c 6 && set c 7)) ∷ zero_at c 8 ∷ field 9 (ltb (bits c 9 2) 3)
    ∷ from11 c

-- "MR3: all 0"
unfoldable pub table3 : ℕ → List Field
table3 c =
    zero_at c 0 ∷ zero_at c 1 ∷ zero_at c 2 ∷ zero_at c 3 ∷ zero_at c 4 ∷ zero_at c 5 ∷ zero_at c 6 ∷ zero_at c 7
    ∷ zero_at c 8 ∷ zero_at c 9 ∷ zero_at c 10 ∷ from11 c

-- by the register's number
unfoldable pub fields_in : Header → (number code : ℕ) → List Field
fields_in h n c = cond (eqb n 0) (table0 h c) (cond (eqb n 1) (table1 h c) (cond (eqb n 2) (table2 h c) (table3 c)))

-- no bit: every field is allowed
abbrev pub no_bit : ℕ
no_bit = 17

-- the same, none where there is no such field
unfoldable pub first_of : List Field → Option ℕ
first_of [] = None
first_of (f ∷ fs) = cond f.ok (first_of fs) (Some f.low)

-- the first field of a table that is not allowed
unfoldable pub first_bad : List Field → ℕ
first_bad [] = no_bit
first_bad (f ∷ fs) = cond f.ok (first_bad fs) f.low

-- Q-5: "the lowest-numbered address bit belonging to a field that isn't allowed", "16 when the register number is wrong"
unfoldable pub bad_bit : Header → (number code : ℕ) → ℕ
bad_bit h n c = cond (ltb 3 n) 16 (first_bad (fields_in h n c))

unfoldable pub bit_of : Header → (number code : ℕ) → Option ℕ
bit_of h n c = cond (ltb 3 n) (Some 16) (first_of (fields_in h n c))

unfoldable pub allowed : Header → (number code : ℕ) → Bool
allowed h n c = eqb (bad_bit h n c) no_bit
