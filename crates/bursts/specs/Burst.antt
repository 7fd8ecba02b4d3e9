-- Burst order, from 01: the last paragraph of "Registers", and refusals 10 and 9.
-- Assumes nothing.
use Rattle.std.specs.Prelude.{ℕ, zero, suc, ◌+◌, ◌*◌, ◌/◌, ◌%◌, ◌^◌, Bool, not, cond, ◌||◌, List, [], ◌∷◌, eqb, ltb, length}
use Rattle.std.specs.Int.Bits.{bit_xor}
use Rattle.laws.specs.Lent.{Wrote}

-- a number's bit 2
abbrev pub bit_two : ℕ → ℕ
bit_two n = n / 4 % 2

-- eight, sequential: four times (s's bit 2 xor i's bit 2) plus (s + i) mod 4
abbrev pub sequential : (s i : ℕ) → ℕ
sequential s i = 4 * bit_xor (bit_two s) (bit_two i) + (s + i) % 4

-- interleave: s xor i
abbrev pub interleave : (s i : ℕ) → ℕ
interleave s i = bit_xor s i

-- a read of eight, by its type: 0 sequential, any other number the other. Read of four: as eight, first four words
abbrev pub read_word : (s kind i : ℕ) → ℕ
read_word s kind i = cond (eqb kind 0) (sequential s i) (interleave s i)

-- a number with its low bits cleared
abbrev pub cleared : (bits n : ℕ) → ℕ
cleared bits n = n / 2 ^ bits * 2 ^ bits

-- writes start at s with its low three bits cleared (eight) or low two (four), counting up
abbrev pub write_word : (length s i : ℕ) → ℕ
write_word length s i = cond (eqb length 8) (cleared 3 s) (cleared 2 s) + i

-- word i from start s, by the direction: 0 read, any other number the other
abbrev pub word_of : (length s kind direction i : ℕ) → ℕ
word_of length s kind direction i = cond (eqb direction 0) (read_word s kind i) (write_word length s i)

-- n words, from word i on
abbrev pub words_from : (ℕ → ℕ) → (i n : ℕ) → List ℕ
words_from word i zero = []
words_from word i (suc n) = word i ∷ words_from word (suc i) n

-- the words of a burst, as many as its length
unfoldable pub order_of : (length start kind direction : ℕ) → List ℕ
order_of length start kind direction = words_from (word_of length start kind direction) 0 length

-- 10 is given exactly when the burst length is not 4 or 8, or the start is above 7
unfoldable pub gives10 : (length start : ℕ) → Bool
gives10 length start = not (eqb length 4 || eqb length 8) || ltb 7 start

-- 9 is given exactly when the lent buffer is too short
abbrev pub gives9 : (length room : ℕ) → Bool
gives9 length room = ltb room length

-- burst order checks 10, 9; success returns 0
unfoldable pub code_of : (length start room : ℕ) → ℕ
code_of length start room = cond (gives10 length start) 10 (cond (gives9 length room) 9 0)

-- burst order writes one byte a word, 8 or 4
abbrev pub Ordered : (n start kind direction : ℕ) (before : List ℕ) (r : ℕ) (after : List ℕ) → Type 0
Ordered n start kind direction before r after = Wrote (code_of n start (length before)) (order_of n start kind direction) before r after
