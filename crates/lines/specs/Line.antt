-- The program's one line: 01, P8 to P10.
-- Assumes nothing.
use Rattle.std.specs.Prelude.{ℕ, zero, suc, ◌+◌, ◌/◌, ◌%◌, cond, List, [], ◌∷◌, ◌++◌, ◌≡◌, ltb, eqb, length, drop}
use Prim.Native.Char.{code}
use Prim.Native.String.{String, [] as none, ◌∷◌ as ◌then◌}
use Rattle.answers.specs.declared.Verdict.{Verdict}

-- a text's characters, each by its code
abbrev pub text : String → List ℕ
text none = []
text (c then s) = code c ∷ text s

-- n's decimal digits, the most significant first, with no zero in front; at most so many places
unfoldable pub decimal_in : ℕ → ℕ → List ℕ
decimal_in zero n = []
decimal_in (suc places) n = cond (ltb n 10) [] (decimal_in places (n / 10)) ++ ((48 + n % 10) ∷ [])

-- a space and a number: 20 places hold every number of 64 bits
unfoldable pub spaced : ℕ → List ℕ
spaced n = text " " ++ decimal_in 20 n

-- "`clean 7 530` (records, end edge)"
unfoldable pub clean_words : Verdict → List ℕ
clean_words v = text "clean" ++ spaced v.number ++ spaced v.edge

-- "`broken 10 7 6 529 5 4` (rule, record, partner, edge, needed, found)"
unfoldable pub broken_words : Verdict → List ℕ
broken_words v =
    text "broken"
    ++ spaced v.rule
    ++ spaced v.number
    ++ spaced v.partner
    ++ spaced v.edge
    ++ spaced v.needed
    ++ spaced v.found

-- a verdict's line without its newline
unfoldable pub verdict_words : Verdict → List ℕ
verdict_words v = cond (eqb v.outcome 0) (clean_words v) (broken_words v)

-- "It prints one line"
abbrev pub verdict_line : Verdict → List ℕ
verdict_line v = verdict_words v ++ text "\n"

-- "A refusal prints `refused` and its number"
unfoldable pub refusal_line : ℕ → List ℕ
refusal_line n = text "refused" ++ spaced n ++ text "\n"

-- the call answers the length of what it prints, and leaves that and then what stood behind it
pub record Printed (line before : List ℕ) (r : ℕ) (after : List ℕ) : Type 0 where
  pub count : r ≡ length line
  pub out : after ≡ line ++ drop (length line) before
