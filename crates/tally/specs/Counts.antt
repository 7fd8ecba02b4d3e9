-- The counts of a whole recording, by looking back over it: the definition that a tally is held to.
-- Assumes nothing.
use Rattle.std.specs.Prelude.{ℕ, ◌+◌, cond, List, [], ◌∷◌, ◌==◌}
use Rattle.records.specs.Command.{a10}
use Rattle.rules.specs.Past.{Past, cke, asleep, command}
use Rattle.tally.specs.declared.Tally.{Tally}
use Rattle.tally.specs.Kinds.{kind_of}

-- the records of a kind, by each record's command as the rules have it
abbrev pub count_of : (kind : ℕ) → Past → ℕ
count_of k [] = 0
count_of k (r ∷ p) = cond (kind_of (command (r ∷ p)) (a10 r) == k) (count_of k p + 1) (count_of k p)

-- f at 0 to 18
unfoldable pub nineteen : (ℕ → ℕ) → List ℕ
nineteen f =
    f 0 ∷ f 1 ∷ f 2 ∷ f 3 ∷ f 4 ∷ f 5 ∷ f 6 ∷ f 7 ∷ f 8 ∷ f 9 ∷ f 10 ∷ f 11 ∷ f 12 ∷ f 13 ∷ f 14 ∷ f 15 ∷ f 16 ∷ f 17 ∷ f 18 ∷ []

-- the tally of a recording
abbrev pub tally_of : Past → Tally
tally_of p = record { level = cke p; sleeps = asleep p; counts = nineteen (λ k. count_of k p) }

abbrev pub total : List ℕ → ℕ
total [] = 0
total (n ∷ ns) = n + total ns
