-- The fields of a mode register's code: 01, "Registers". A code is A15..A0 as a number.
-- Assumes nothing.
use Rattle.std.specs.Prelude.{ℕ, ◌+◌, ◌-◌, ◌*◌, ◌/◌, ◌%◌, ◌^◌, Bool, cond, eqb}

-- the field of n address bits whose lowest is A k
abbrev pub bits : (code k n : ℕ) → ℕ
bits code k n = code / 2 ^ k % 2 ^ n

abbrev pub bit : (code k : ℕ) → ℕ
bit code k = bits code k 1

abbrev pub set : (code k : ℕ) → Bool
set code k = eqb (bit code k) 1

-- ── MR0 ─────────────────────────────────────────────────────────────────────────────────────

-- "A1A0 burst (00 eight, 01 by A12, 10 four)"
abbrev pub burst : ℕ → ℕ
burst c = bits c 0 2

-- "CL code A6A5A4A2: 0010 5, 0100 6, 0110 7, 1000 8, 1010 9, 1100 10, 1110 11, 0001 12"; 0 where it is none of these
unfoldable pub cl_of_code : ℕ → ℕ
cl_of_code k =
    cond (eqb k 0b0010) 5 (cond (eqb k 0b0100) 6 (cond (eqb k 0b0110) 7 (cond (eqb k 0b1000) 8
    (cond (eqb k 0b1010) 9 (cond (eqb k 0b1100) 10 (cond (eqb k 0b1110) 11 (cond (eqb k 0b0001) 12 0)))))))

abbrev pub cl : ℕ → ℕ
cl c = cl_of_code (bits c 4 3 * 2 + bit c 2)

-- "A8 DLL reset"
abbrev pub resets : ℕ → Bool
resets c = set c 8

-- "WR at A11A10A9: 000 16, 001 5, 010 6, 011 7, 100 8, 101 10, 110 12, 111 14"
unfoldable pub wr_of_code : ℕ → ℕ
wr_of_code k =
    cond (eqb k 0b000) 16 (cond (eqb k 0b001) 5 (cond (eqb k 0b010) 6 (cond (eqb k 0b011) 7
    (cond (eqb k 0b100) 8 (cond (eqb k 0b101) 10 (cond (eqb k 0b110) 12 14))))))

abbrev pub wr : ℕ → ℕ
wr c = wr_of_code (bits c 9 3)

-- ── MR1, MR2 ────────────────────────────────────────────────────────────────────────────────

-- "AL at A4A3: 00 0, 01 CL-1, 10 CL-2"
unfoldable pub al : (mr0 mr1 : ℕ) → ℕ
al mr0 mr1 = cond (eqb (bits mr1 3 2) 0) 0 (cl mr0 - bits mr1 3 2)

-- "A9A6A2"
abbrev pub rtt : ℕ → ℕ
rtt c = bit c 9 * 4 + bit c 6 * 2 + bit c 2

-- "CWL at A5A4A3, code + 5"
abbrev pub cwl : ℕ → ℕ
cwl c = bits c 3 3 + 5

-- "RL = AL + CL, WL = AL + CWL"
abbrev pub rl : (mr0 mr1 : ℕ) → ℕ
rl mr0 mr1 = al mr0 mr1 + cl mr0

abbrev pub wl : (mr0 mr1 mr2 : ℕ) → ℕ
wl mr0 mr1 mr2 = al mr0 mr1 + cwl mr2
