-- The constant tables hold 01's tables: the rule is tested once over each whole table.
-- Assumes nothing.
use Prim.Native.Nat.{ℕ, ◌<◌}
use mathlib.Core.Path.{◌≡◌}
use mathlib.Core.List.{List, [], ◌∷◌}
use lib.ListN.{get_or}
use Rattle.laws.proofs.Table.{table-rule}
use Rattle.codes.specs.Codes.{cl_of_code, wr_of_code}

-- the constants of src/lib.rt
unfoldable pub cls : List ℕ
cls = 0 ∷ 12 ∷ 5 ∷ 0 ∷ 6 ∷ 0 ∷ 7 ∷ 0 ∷ 8 ∷ 0 ∷ 9 ∷ 0 ∷ 10 ∷ 0 ∷ 11 ∷ 0 ∷ []

unfoldable pub wrs : List ℕ
wrs = 16 ∷ 5 ∷ 6 ∷ 7 ∷ 8 ∷ 10 ∷ 12 ∷ 14 ∷ []

pub cl-is : (k : ℕ) → k < 16 → get_or cls k 0 ≡ cl_of_code k
unfolding cls cl_of_code
cl-is = table-rule cl_of_code cls tt

pub wr-is : (k : ℕ) → k < 8 → get_or wrs k 0 ≡ wr_of_code k
unfolding wrs wr_of_code
wr-is = table-rule wr_of_code wrs tt
