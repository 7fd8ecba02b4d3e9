-- Register reading: 01, "Register reading takes a header, a register number and a 16-bit code and writes 6 bytes"; 02, Q-5, "returns 11
-- plus 256 times that bit".
-- Assumes nothing.
use Rattle.std.specs.Prelude.{Result, Ok, Err, ℕ, ◌+◌, ◌*◌, cond, List, [], ◌∷◌, eqb, ltb}
use Rattle.header.specs.declared.Header.{Header}
use Rattle.header.specs.Bytes.{Parsed, parsed_of}
use Rattle.refusals.specs.Refusals.{number_of}
use Rattle.codes.specs.Codes.{bits, bit, burst, cl, wr, rtt, cwl}
use Rattle.registers.specs.declared.BadBit.{BadBit}
use Rattle.registers.specs.Allowed.{bad_bit, allowed}

abbrev pub values : (a b c d e f : ℕ) → List ℕ
values a b c d e f = a ∷ b ∷ c ∷ d ∷ e ∷ f ∷ []

-- "MR0: A1A0, A3, CL, A8, WR, A12. MR1: A4A3, A1, A9A6A2, A11, A12, 0. MR2: CWL, A6, A7, A10A9, A2..A0, 0. MR3: zeros."
unfoldable pub values0 : ℕ → List ℕ
values0 c = values (burst c) (bit c 3) (cl c) (bit c 8) (wr c) (bit c 12)

unfoldable pub values1 : ℕ → List ℕ
values1 c = values (bits c 3 2) (bit c 1) (rtt c) (bit c 11) (bit c 12) 0

unfoldable pub values2 : ℕ → List ℕ
values2 c = values (cwl c) (bit c 6) (bit c 7) (bits c 9 2) (bits c 0 3) 0

unfoldable pub values_of : (number code : ℕ) → List ℕ
values_of n c = cond (eqb n 0) (values0 c) (cond (eqb n 1) (values1 c) (cond (eqb n 2) (values2 c) (values 0 0 0 0 0 0)))

-- the decoded register, or the refused bit
abbrev pub Decoded : Type 0
Decoded = Result (List ℕ) BadBit

abbrev pub bad : ℕ → BadBit
bad b = record { bit = b }

unfoldable pub decoded_of : Header → (number code : ℕ) → Decoded
decoded_of h n c = cond (allowed h n c) (Ok (values_of n c)) (Err (bad (bad_bit h n c)))

-- a number of the rules paper, and where it is 0 the six bytes
pub record Answer : Type 0 where
  pub number : ℕ
  pub bytes : List ℕ

abbrev pub refusal : ℕ → Answer
refusal k = record { number = k; bytes = [] }

-- number and values for each of the two cases
abbrev pub answer_of : Decoded → Answer
answer_of (Ok v) = record { number = 0; bytes = v }
answer_of (Err b) = refusal (11 + 256 * b.bit)

-- the checks 1, 2, 3, 4, then 11: by the cases of the header's answer
abbrev pub read_under : Parsed → (number code : ℕ) → Answer
read_under (Ok h) n c = answer_of (decoded_of h n c)
read_under (Err r) n c = refusal (number_of r)

-- check 9 before them all
unfoldable pub read_of : (header : List ℕ) → (number code room : ℕ) → Answer
read_of hd n c room = cond (ltb room 6) (refusal 9) (read_under (parsed_of 1 hd) n c)
