-- What the code hands on, by what opening and a section answer; and one answer for each public contract.
-- Assumes nothing.
use Prim.Native.Nat.{ℕ}
use mathlib.Core.Bool.{Bool, true, false, cond, not, ◌&&◌, ◌||◌, true≢false}
use mathlib.Core.List.{List, []}
use mathlib.Core.Path.{◌≡◌, refl, sym, ap, subst, ◌∙◌}
use lib.Dec.{eqb}
use borrow.Author.Tests.{eq-eqb}
use Rattle.laws.proofs.Unique.{Unique, one_answer}
use Rattle.lines.proofs.Answers as lines
use Rattle.judge.specs.declared.State.{State}
use Rattle.judge.specs.Answers.{CloseAnswer as Closed}
use Rattle.judge.specs.Calls.{close_of}
use Rattle.lines.specs.Line.{Printed}
use Rattle.program.specs.Answer.{closing_line, answer_line, closing_second, second_line}
use Rattle.program.specs.declared.Run.{Run}
use Rattle.program.specs.Program.{opened_run, next_run, ran_over}
use Rattle.program.specs.Promises.{Begun, Next, Over, Line, SecondLine}

pub begun-unique : (header : List ℕ) → Unique (Begun header)
begun-unique header = one_answer (opened_run header)

pub next-unique : (s : State) (bytes : List ℕ) → Unique (Next s bytes)
next-unique s bytes = one_answer (next_run s bytes)

pub over-unique : (start : Run) (block : List ℕ) → Unique (Over start block)
over-unique start block = one_answer (ran_over 10 start block)

pub line-unique :
    (run : Run) {before after after' : List ℕ} {r r' : ℕ} → Line run before r after → Line run before r' after'
    → (r ≡ r') × (after ≡ after')
line-unique run one other = lines.line-unique one other

pub second-line-unique :
    (run : Run) {before after after' : List ℕ} {r r' : ℕ} → SecondLine run before r after → SecondLine run before r' after'
    → (r ≡ r') × (after ≡ after')
second-line-unique run one other = lines.line-unique one other

-- ── The lines ───────────────────────────────────────────────────────────────────────────────

-- nothing was refused: the line is that of closing
pub closed-line : (refused : ℕ) (s : State) (c : Closed) → refused ≡ 0 → c ≡ close_of s s.one.edge → closing_line c ≡ answer_line refused s
unfolding answer_line
closed-line refused s c none is = ap closing_line is ∙ rw (eq-eqb refused 0 none) refl

-- no byte
pub nothing : (text before : List ℕ) → text ≡ [] → Printed text before 0 before
nothing text before e = subst (λ t. Printed t before 0 before) (sym e) (record { count = refl; out = refl })

-- of a run that was refused, or of edition 1
pub no_second : (refused : ℕ) (s : State) (before : List ℕ) → (not (eqb refused 0) || not (eqb s.edition 2)) ≡ true → Printed (second_line refused s) before 0 before
unfolding second_line
no_second refused s before = go (eqb refused 0) (eqb s.edition 2)
  where
    go : (x y : Bool) → (not x || not y) ≡ true → Printed (cond (x && y) (closing_second (close_of s s.one.edge)) []) before 0 before
    go true true h = absurd (true≢false (sym h))
    go true false h = nothing [] before refl
    go false y h = nothing [] before refl

-- else it is that of closing
pub closed-second : (refused : ℕ) (s : State) (c : Closed) → (not (eqb refused 0) || not (eqb s.edition 2)) ≡ false → c ≡ close_of s s.one.edge
    → closing_second c ≡ second_line refused s
unfolding second_line
closed-second refused s c h is = ap closing_second is ∙ go (eqb refused 0) (eqb s.edition 2) h
  where
    go : (x y : Bool) → (not x || not y) ≡ false → closing_second (close_of s s.one.edge) ≡ cond (x && y) (closing_second (close_of s s.one.edge)) []
    go true true h = refl
    go true false h = absurd (true≢false h)
    go false y h = absurd (true≢false h)
