-- What a worked example of 01 says, and when it holds of the definitions.
-- Assumes nothing.
use Rattle.std.specs.Prelude.{ℕ, ◌≡◌, Bool, false, List, [], ◌∷◌}
use Prim.Native.String.{String}
use Rattle.header.specs.declared.Header.{Header}
use Rattle.std.specs.Prelude.{Ok}
use Rattle.header.specs.Bytes.{edition_for, parsed_of}
use Rattle.header.specs.Counts.{t_rcd, t_rp, t_rc, t_ras, t_rrd, t_faw, t_rtp, t_wr, t_rfc, t_mod, t_xs, most_ras, t_refi}
use Rattle.registers.specs.Allowed.{allowed}
use Rattle.registers.specs.Reading.{decoded_of, answer_of}
use Rattle.bursts.specs.Burst.{order_of}
use Rattle.answers.specs.declared.Verdict.{Verdict}
use Rattle.wide.specs.Moved.{widen}
use Rattle.sections.specs.Recording.{whole_refusal, whole_verdict}
use Rattle.lines.specs.Line.{text}
use Rattle.program.specs.Program.{program_line}

-- the twelve counts that P1 and P2 list, in their order
abbrev pub counts_of : Header → List ℕ
counts_of h =
    (t_rcd h).clocks ∷ (t_rp h).clocks ∷ (t_rc h).clocks ∷ (t_ras h).clocks ∷ (t_rrd h).clocks ∷ (t_faw h).clocks ∷ (t_rtp h).clocks ∷ (t_wr h).clocks
    ∷ (t_rfc h).clocks ∷ (t_mod h).clocks ∷ (t_xs h).clocks ∷ (t_refi h).clocks ∷ []

pub data Case : Type 0 where
  -- the clock counts of a header
  counts : (h : Header) (clocks : List ℕ) → Case
  -- the greatest t_ras of a header, in clocks
  limit : (h : Header) (clocks : ℕ) → Case
  -- the words of a burst
  burst : (length start kind direction : ℕ) (words : List ℕ) → Case
  -- a code that is allowed, and what register reading gives for it
  reads : (h : Header) (number code : ℕ) (fields : List ℕ) → Case
  -- whether a code is allowed
  permits : (h : Header) (number code : ℕ) (answer : Bool) → Case
  -- the header of six bytes
  opens : (bytes : List ℕ) (h : Header) → Case
  -- a whole recording in bytes, header first, closed at an edge: it is not refused, and this is its verdict
  judged : (recording : List ℕ) (end : ℕ) (verdict : Verdict) → Case
  -- the line that the program prints of it
  printed : (recording : List ℕ) (line : String) → Case
  -- a record of edition 1, and what it becomes in edition 2
  widens : (bytes moved : List ℕ) → Case

abbrev pub Holds : Case → Type 0
Holds (counts h clocks) = counts_of h ≡ clocks
Holds (limit h n) = (most_ras h).clocks ≡ n
Holds (burst length start kind direction words) = order_of length start kind direction ≡ words
Holds (reads h number code fields) = answer_of (decoded_of h number code) ≡ record { number = 0; bytes = fields }
Holds (permits h number code answer) = allowed h number code ≡ answer
Holds (opens bytes h) = parsed_of (edition_for bytes) bytes ≡ Ok h
Holds (judged bs end verdict) = (whole_refusal bs end ≡ 0) × (whole_verdict false bs end ≡ verdict)
Holds (printed bs line) = program_line bs ≡ text line
Holds (widens bs moved) = widen bs ≡ moved

-- every case of a table holds
abbrev pub AllHold : List Case → Type 0
AllHold [] = Unit {0}
AllHold (c ∷ cs) = Holds c × AllHold cs
