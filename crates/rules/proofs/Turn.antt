-- A judge's verdict and the rules' outcome: what is said first, and by number.
-- Assumes nothing.
use Prim.Native.Nat.{ℕ, ◌≤◌}
use native.Mathlib.Omega.{arith}
use mathlib.Core.Path.{◌≡◌, refl, ◌∙◌}
use mathlib.Core.Bool.{Bool, true, false, cond}
use lib.Dec.{ltb, leb}
use borrow.Author.Tests.{leb-false}
use Rattle.answers.specs.declared.Break.{Break}
use Rattle.answers.specs.declared.Break.TheVariants.{Fine, Broken}
use Rattle.answers.specs.declared.Verdict.{Verdict}
use Rattle.running.specs.declared.Late.{Late}
use Rattle.running.specs.Late.{why, sooner}
use Rattle.running.specs.Said.{no_verdict, first, verdict_at}
use Rattle.rules.specs.Verdict.{Outcome, clean, stop, keep, told, shown}
use Rattle.rules.proofs.Numbered.{in_order}

-- ── The judge's verdicts ────────────────────────────────────────────────────────────────────

-- what the judge keeps of an outcome: nothing said, or the first broken edge
abbrev pub said : Outcome → Verdict
said clean = no_verdict
said (stop t n why) = shown (stop t n why) 0 0

told-said : (e n : ℕ) (b : Break) → verdict_at e n b ≡ said (told e n b)
told-said e n Fine = refl
told-said e n (Broken k x m f) = refl

first_said : (v w : Outcome) → first (said v) (said w) ≡ said (keep v w)
unfolding keep
first_said clean w = refl
first_said (stop t n Fine) w = refl
first_said (stop t n (Broken k x m f)) w = refl

pub sooner-first : (x y : Late) → (sooner x y).at ≤ x.at
unfolding sooner
sooner-first x y = go (leb x.at y.at) refl
  where
    go : (b : Bool) → leb x.at y.at ≡ b → (cond b x y).at ≤ x.at
    go true h = omega arith
    go false h = omega (arith, leb-false)

-- the deadline x, if it passes before the edge e
abbrev pub passing : Late → ℕ → Outcome
passing x e = cond (ltb x.at e) (stop x.at 0 (why x)) clean

-- one thing more that is said first
said-first : (e n : ℕ) (b : Break) {w : Verdict} (v : Outcome) → w ≡ said v → first (verdict_at e n b) w ≡ said (keep (told e n b) v)
said-first e n b v h = (λ i. first (told-said e n b i) (h i)) ∙ first_said (told e n b) v

-- by number: a the record's breaks of rules 1 to 23, x and y the deadlines 24 and 25, c 26 and 27, d the deadline 28, f 29 and 30, g the deadline 31
pub said-in-order :
    (e n : ℕ) (a x y c d f g : Break)
    → first (verdict_at e n a) (first (verdict_at e 0 x) (first (verdict_at e 0 y) (first (verdict_at e n c) (first (verdict_at e 0 d)
    (first (verdict_at e n f) (verdict_at e 0 g))))))
    ≡ said (in_order (told e n a) (told e 0 x) (told e 0 y) (told e n c) (told e 0 d) (told e n f) (told e 0 g))
said-in-order e n a x y c d f g =
    said-first e n a _ (said-first e 0 x _ (said-first e 0 y _ (said-first e n c _ (said-first e 0 d _ (said-first e n f _ (told-said e 0 g))))))
