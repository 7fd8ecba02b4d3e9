-- What is said of reading: that the bytes are those of standard input no contract can say, so some bytes are read, and the program makes of
-- them what opening and sections make of them.
-- Assumes nothing.
use Rattle.std.specs.Prelude.{ℕ, ◌+◌, ◌≤◌, ◌≡◌, List, length}
use Rattle.program.specs.declared.Run.{Run}
use Rattle.program.specs.Program.{opened_run, ran_over, program_run, program_line, program_second}

-- opening some bytes, six at most
abbrev pub Opened : Run → Type 0
Opened r = (bs : List ℕ) × (length bs ≤ 6) × (r ≡ opened_run bs)

-- a block of some bytes, 60,000 at most
abbrev pub Took : Run → Run → Type 0
Took start r = (bs : List ℕ) × (length bs ≤ 60000) × (r ≡ ran_over 10 start bs)

-- all of some bytes, section after section: a section takes a byte at least, but for the last
abbrev pub Ran : Run → Run → Type 0
Ran start r = (bs : List ℕ) × (r ≡ ran_over (length bs + 1) start bs)

-- all of some input, and its lines
abbrev pub Judged : Run → Type 0
Judged r = (input : List ℕ) × (r ≡ program_run input)

abbrev pub Told : List ℕ → Type 0
Told line = (input : List ℕ) × (line ≡ program_line input)

abbrev pub ToldSecond : List ℕ → Type 0
ToldSecond line = (input : List ℕ) × (line ≡ program_second input)
