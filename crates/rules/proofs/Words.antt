-- The judge's words and the rules': a check of one mark, and the marks that the judge keeps, as what the rules look back for.
-- Assumes nothing.
use Prim.Native.Nat.{ℕ, ◌-◌}
use native.Mathlib.Omega.{arith}
use mathlib.Core.Path.{◌≡◌, refl, sym, ap, ◌∙◌, fun_ext}
use mathlib.Core.Logic.{⊎_elim}
use mathlib.Core.Bool.{Bool, true, false, cond, ◌&&◌, ◌||◌, and-true}
use mathlib.Core.List.{List, [], ◌∷◌, ◌++◌}
use lib.Dec.{ltb}
use borrow.Author.Tests.{ltb-true, lt-ltb, le-ltb, ne_eqb}
use Rattle.answers.specs.declared.Break.{Break}
use Rattle.answers.specs.declared.Break.TheVariants.{Fine, Broken}
use Rattle.records.specs.declared.Record.{Record}
use Rattle.records.specs.declared.Command.TheVariants.{Ref, Srx}
use Rattle.chip.specs.declared.Chip.{Chip}
use Rattle.running.specs.declared.Mark.{Mark}
use Rattle.running.specs.Marks.{needing, as10, as11, as13, as14, as19}
use Rattle.running.specs.Marks as marks
use Rattle.running.specs.Breaks as running
use Rattle.rules.specs.Past.{Past, edge, number, is, on, latest, back}
use Rattle.answers.specs.Answer.{or_else}
use Rattle.rules.specs.Search.{short, Spacing, row}
use Rattle.rules.specs.Rules.{r22, rule23, spaced, since, fourth}
use Rattle.rules.specs.Waiting.{spacing_rules}
use Rattle.rules.proofs.Generic.{decide, check_of, Dominated, edge-reached, latest-only}
use Rattle.rules.proofs.Events.{latest-is}
use Rattle.rules.proofs.Clean.{is-other}
use Rattle.rules.proofs.Dominate.{need10, need11, need13, need14, need19}
use Rattle.rules.proofs.Summary.{mark, start_mark, read_of, wrote_of}
use Rattle.rules.proofs.Status.{latest-number}

-- the check of one mark, by itself
abbrev pub check : (k e : ℕ) → Mark → Break
check k e m = short k e m.at m.num m.need Fine

-- a check that is made where x holds, before the rest
when-is : (x : Bool) (k e : ℕ) (m : Mark) (rest : Break) → running.when_is x k e m rest ≡ or_else (cond x (check k e m) Fine) rest
unfolding marks.spaced or_else
when-is false k e m rest = refl
when-is true k e m rest = go (ltb (e - m.at) m.need)
  where
    go : (y : Bool) → cond y (Broken k m.num m.need (e - m.at)) rest ≡ or_else (cond y (Broken k m.num m.need (e - m.at)) Fine) rest
    go true = refl
    go false = refl

-- one rule more
pub also : (x : Bool) (k e : ℕ) (m : Mark) {R rest others : Break} → cond x (check k e m) Fine ≡ R → rest ≡ others → running.when_is x k e m rest ≡ or_else R others
also x k e m {R} {rest} {others} p q = when-is x k e m rest ∙ (λ i. or_else (p i) (q i))

pub check-mark : (k e : ℕ) (need : Past → ℕ) (s : Past) → check k e (mark need s) ≡ check_of edge k e need s
check-mark k e need [] = rw (le-ltb (e - 0) 0 (omega arith))
check-mark k e need (r ∷ p) = refl

-- an event under a constant need
pub needing-mark : (n : ℕ) (need : Past → ℕ) (s : Past) → needing n (mark need s) ≡ mark (λ _. n) s
unfolding needing
needing-mark n need [] = refl
needing-mark n need (r ∷ p) = rw (ne_eqb (number (r ∷ p)) 0 (λ z. omega arith))

pub back-latest : (kind : Past → Bool) (p : Past) → back kind 0 p ≡ latest kind p
back-latest kind [] = refl
back-latest kind (r ∷ p) = ap (cond (kind (r ∷ p)) (r ∷ p)) (back-latest kind p)

pub or-fine : (b : Break) → or_else b Fine ≡ b
unfolding or_else
or-fine Fine = refl
or-fine (Broken k n m f) = refl

-- the checks after rule 3
abbrev pub spacing_checks : Chip → List (Record → Past → Break)
spacing_checks C = spacing_rules C ++ (spaced C r22 ∷ rule23 C ∷ [])

-- a rule whose past is dominated: the check of one mark
pub row-agrees : (R : Spacing) (r : Record) (p : Past) → Dominated edge (R.from (r ∷ p)) R.need p
    → row R r p ≡ cond (R.to (r ∷ p)) (check R.name (edge (r ∷ p)) (mark R.need (latest (R.from (r ∷ p)) p))) Fine
row-agrees R r p d = ap (λ b. cond (R.to (r ∷ p)) b Fine)
    (latest-only edge R.name (edge (r ∷ p)) (R.from (r ∷ p)) R.need p (edge-reached R.need (edge (r ∷ p)) p (omega arith)) d
    ∙ sym (check-mark R.name (edge (r ∷ p)) R.need (latest (R.from (r ∷ p)) p)))

-- of all banks, or of one
pub covered-latest : (k : Past → Bool) (a : Bool) (b : ℕ) (p : Past)
    → latest (λ s. k s && (a || on b s)) p ≡ cond a (latest k p) (latest (λ s. k s && on b s) p)
covered-latest k true b p = ap (λ (f : Past → Bool). latest f p) (fun_ext (λ s. and-true (k s)))
covered-latest k false b p = refl

module _ (C : Chip) where
  pub as10-mark : (s : Past) → as10 (read_of C s) ≡ mark (need10 C) s
  as10-mark [] = refl
  as10-mark (r ∷ p) = refl

  pub as13-mark : (s : Past) → as13 (read_of C s) ≡ mark (need13 C) s
  as13-mark [] = refl
  as13-mark (r ∷ p) = refl

  pub as19-mark : (s : Past) → as19 (read_of C s) ≡ mark (need19 C) s
  as19-mark [] = refl
  as19-mark (r ∷ p) = refl

  pub as11-mark : (s : Past) → as11 (wrote_of C s) ≡ mark (need11 C) s
  as11-mark [] = refl
  as11-mark (r ∷ p) = refl

  pub as14-mark : (s : Past) → as14 (wrote_of C s) ≡ mark (need14 C) s
  as14-mark [] = refl
  as14-mark (r ∷ p) = refl

  pub since-mark : (e : ℕ) (s : Past) → check 5 e (start_mark C s) ≡ since C e s
  since-mark e [] = rw (le-ltb (e - 0) 0 (omega arith))
  since-mark e (r ∷ p) = refl

  pub fourth-mark : (e : ℕ) (s : Past) → check 8 e (mark (λ _. C.tfaw) s) ≡ fourth C e s
  fourth-mark e [] = rw (le-ltb (e - 0) 0 (omega arith))
  fourth-mark e (r ∷ p) = refl

-- the latest of two kinds is the later of the latest of each
pub later_of_lem : (k l : Past → Bool) → ((s : Past) → k s ≡ true → l s ≡ false) → (p : Past)
    → latest (λ s. k s || l s) p ≡ cond (ltb (number (latest l p)) (number (latest k p))) (latest k p) (latest l p)
later_of_lem k l d [] = refl
later_of_lem k l d (r ∷ p) = ⊎_elim
    (λ (y : k (r ∷ p) ≡ true). rw (y, d (r ∷ p) y, lt-ltb (number (latest l p)) (number (r ∷ p)) (omega (arith, latest-number l p))))
    (λ (n : k (r ∷ p) ≡ false). ⊎_elim
    (λ (y : l (r ∷ p) ≡ true). rw (n, y, le-ltb (number (r ∷ p)) (number (latest k p)) (omega (arith, latest-number k p))))
    (λ (z : l (r ∷ p) ≡ false). rw (n, z) (later_of_lem k l d p))
    (decide (l (r ∷ p))))
    (decide (k (r ∷ p)))

pub srx-not-ref : (s : Past) → is Srx s ≡ true → is Ref s ≡ false
srx-not-ref s y = is-other Srx Ref s (λ e. omega arith) y

pub woken : (p : Past) → is Srx (latest (λ s. is Srx s || is Ref s) p) ≡ ltb (number (latest (is Ref) p)) (number (latest (is Srx) p))
woken p = ap (is Srx) (later_of_lem (is Srx) (is Ref) srx-not-ref p) ∙ ⊎_elim
    (λ (y : ltb (number (latest (is Ref) p)) (number (latest (is Srx) p)) ≡ true). rw y (⊎_elim
    (λ (n : latest (is Srx) p ≡ []). let z : number (latest (is Srx) p) ≡ 0 = ap number n in absurd (omega (arith, ltb-true)))
    (λ w. w.1)
    (latest-is (is Srx) p)))
    (λ (n : ltb (number (latest (is Ref) p)) (number (latest (is Srx) p)) ≡ false). rw n (⊎_elim
    (λ (n : latest (is Ref) p ≡ []). ap (is Srx) n)
    (λ w. is-other Ref Srx (latest (is Ref) p) (λ e. omega arith) w.1)
    (latest-is (is Ref) p)))
    (decide (ltb (number (latest (is Ref) p)) (number (latest (is Srx) p))))
