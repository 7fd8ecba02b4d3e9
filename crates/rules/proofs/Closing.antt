-- Closing: the parts of what the rules say of a recording closed at an end edge.
-- Assumes nothing.
use Prim.Native.Nat.{ℕ}
use mathlib.Core.Path.{◌≡◌, refl, sym, ap, ◌∙◌}
use mathlib.Core.List.{List, [], ◌∷◌}
use Rattle.laws.specs.Eight.{table}
use Rattle.answers.specs.declared.Break.TheVariants.{Fine, Broken}
use Rattle.answers.specs.declared.Verdict.{Verdict}
use Rattle.std.specs.Prelude.{Option}
use Rattle.answers.specs.declared.Shown.{Shown}
use Rattle.answers.specs.declared.End.{End}
use Rattle.answers.specs.Answer.{shown_of}
use Rattle.chip.specs.declared.Chip.{Chip}
use Rattle.running.specs.Ends.{rest_of, registers_of}
use Rattle.rules.specs.Past.{Past, up_to}
use Rattle.rules.specs.Registers.{regs, mr}
use Rattle.rules.specs.Banks.{status}
use Rattle.rules.specs.Deadlines.{owed_at}
use Rattle.rules.specs.Verdict.{Outcome, clean, stop, verdict_to, shown, shown_verdict, rest, register_of, answer}
use Rattle.rules.proofs.Summary.{written}

pub rest-shown : (v : Outcome) (n t : ℕ) → rest_of (shown v n t) t ≡ rest v t
rest-shown clean n t = refl
rest-shown (stop u m Fine) n t = refl
rest-shown (stop u m (Broken k x y f)) n t = refl

module _ (C : Chip) where
  abbrev pub registers_in : Past → List (Option ℕ)
  registers_in q = register_of (mr 0 q) ∷ register_of (mr 1 q) ∷ register_of (mr 2 q) ∷ register_of (mr 3 q) ∷ []

  pub registers-in : (q : Past) → registers_of (regs q) (written C q) ≡ registers_in q
  unfolding regs written
  registers-in q = refl

  module _ (p : Past) (t : ℕ) where
    -- the edge at which the rules look at banks, registers and debt
    abbrev pub rest_at : ℕ
    rest_at = rest (verdict_to C p t) t

    -- these parts of the records q up to there are the answer
    pub answer-of :
        (q : Past) → up_to rest_at p ≡ q → (v : Verdict) → v ≡ shown_verdict C p t → (banks : List Shown) → banks ≡ table (λ b. shown_of (status C b q rest_at))
        → (registers : List (Option ℕ)) → registers ≡ registers_in q → (owed : ℕ) → owed ≡ owed_at C.trefi q rest_at
        → ◌≡◌ {A = End} (record { verdict = v; banks = banks; registers = registers; owed = owed }) (answer C p t)
    unfolding answer
    answer-of q keeps v e banks f registers g owed h = λ i. record {
      verdict = e i;
      banks = (f ∙ ap (λ x. table (λ b. shown_of (status C b x rest_at))) (sym keeps)) i;
      registers = (g ∙ ap registers_in (sym keeps)) i;
      owed = (h ∙ ap (λ x. owed_at C.trefi x rest_at) (sym keeps)) i;
    }
