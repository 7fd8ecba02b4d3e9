-- Every check of a record says only its own rule, and names the pair that 01 names for it.
-- Assumes nothing.
use Prim.Native.Nat.{ℕ}
use mathlib.Core.Path.{◌≡◌}
use Rattle.laws.specs.Among.{Among}
use Rattle.answers.specs.declared.Break.{Break}
use Rattle.answers.specs.declared.Break.TheVariants.{Broken}
use Rattle.records.specs.declared.Record.{Record}
use Rattle.chip.specs.declared.Chip.{Chip}
use Rattle.rules.specs.Past.{Past}
use Rattle.rules.specs.Rules.{Row, rule1, rule2, rule3, rule5, rule8, rule23, spacing, spaced}
use Rattle.rules.specs.Verdict.{of_record, edge_checks}
use Rattle.means.specs.Pairs.{Pair, other-change, in-the-way, lacking, too-soon, precharging, five-acts, no-refresh}
use Rattle.means.proofs.Partners.{row-pair}
use Rattle.means.proofs.Pairs.{pair1, pair2, pair3, pair5, pair8, pair23}

module _ (C : Chip) where
  -- the check g speaks of rule k alone
  abbrev pub Says : ℕ → (Record → Past → Break) → Type 0
  Says k g = (r : Record) (p : Past) (j n m f : ℕ) → g r p ≡ Broken j n m f → (j ≡ k) × Pair C r p n m f k

  pub says1 : Says 1 (rule1 C)
  says1 r p j n m f h = let w = pair1 C r p j n m f h in (w.0, other-change w.1 w.2 w.3)

  pub says2 : Says 2 (rule2 C)
  says2 r p j n m f h = let w = pair2 C r p j n m f h in (w.0, in-the-way w.1)

  pub says3 : Says 3 (rule3 C)
  says3 r p j n m f h = let w = pair3 C r p j n m f h in (w.0, lacking w.1 w.2 w.3)

  pub says5 : Says 5 (rule5 C)
  says5 r p j n m f h = let w = pair5 C r p j n m f h in (w.0, precharging w.1)

  pub says8 : Says 8 (rule8 C)
  says8 r p j n m f h = let w = pair8 C r p j n m f h in (w.0, five-acts w.1)

  pub says23 : Says 23 (rule23 C)
  says23 r p j n m f h = let w = pair23 C r p j n m f h in (w.0, no-refresh w.1)

  pub says_row : (x : Row) → Says (spacing C x).name (spaced C x)
  says_row x r p j n m f h = let w = row-pair (spacing C x) r p j n m f h in (w.0, too-soon x w.1)

  -- rule k is broken by the record r after the past p: one of the checks says so
  pub record BreaksRecord (r : Record) (p : Past) (k : ℕ) : Type 0 where
    pub check : Record → Past → Break
    pub of : Among (of_record check) (edge_checks C)
    pub partner : ℕ
    pub needed : ℕ
    pub found : ℕ
    pub says : check r p ≡ Broken k partner needed found
