-- The search for a record of a lot, in sections in turn of files in turn, and what sections of the files as given are.
-- Assumes nothing.
use Rattle.std.specs.Prelude.{Option, Some, None, ◌≡◌, ℕ, ◌%◌, Bool, false, ◌⊎◌, List, [], ◌∷◌, length}
use Rattle.laws.specs.Cuts.{uncut}
use Rattle.records.specs.Record.{words}
use Rattle.tally.specs.declared.Placed.{Placed}
use Rattle.tally.specs.declared.Spot.{Spot}
use Rattle.tally.specs.Places.{begun_of, passed_of, find_of, body_of}

-- ── Sections in turn ────────────────────────────────────────────────────────────────────────

-- what is found first
abbrev pub first : Option Placed → Option Placed → Option Placed
first (Some p) later = Some p
first None later = later

-- the walk over sections
abbrev pub pass_in : Spot → (sections : List (List ℕ)) → Spot
pass_in s [] = s
pass_in s (xs ∷ xss) = pass_in (passed_of s (words xs)) xss

-- the search in sections: in each from where the walk over those before it stands
abbrev pub find_in : (n : ℕ) → Spot → (sections : List (List ℕ)) → Option Placed
find_in n s [] = None
find_in n s (xs ∷ xss) = first (find_of n s (words xs)) (find_in n (passed_of s (words xs)) xss)

-- each section ends between records, or no byte follows it
abbrev pub Between : List (List ℕ) → Type 0
Between [] = Unit
Between (xs ∷ xss) = ((length xs % 6 ≡ 0) ⊎ (uncut xss ≡ [])) × Between xss

-- ── Files in turn ───────────────────────────────────────────────────────────────────────────

-- the search in files, each a list of sections behind the header
abbrev pub find_all : (n : ℕ) → (headed : Bool) → Spot → (files : List (List (List ℕ))) → Option Placed
find_all n headed s [] = None
find_all n headed s (xss ∷ files) = first (find_in n (begun_of s headed) xss) (find_all n false (pass_in (begun_of s headed) xss) files)

-- sections of a file as given
pub record Cut (headed : Bool) (bs : List ℕ) (xss : List (List ℕ)) : Type 0 where
  pub bytes : uncut xss ≡ body_of headed bs
  pub between : Between xss

-- sections of each file
abbrev pub CutAs : (headed : Bool) → (files : List (List ℕ)) → (cuts : List (List (List ℕ))) → Type 0
CutAs headed [] [] = Unit
CutAs headed (bs ∷ files) (xss ∷ cuts) = Cut headed bs xss × CutAs false files cuts
CutAs headed [] (xss ∷ cuts) = ⊥
CutAs headed (bs ∷ files) [] = ⊥
