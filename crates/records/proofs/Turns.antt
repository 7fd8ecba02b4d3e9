-- A loop over a section's records: what remains to be taken, and one turn.
-- Assumes nothing.
use Rattle.std.proofs.Common.{◌≡◌, ℕ, zero, suc, ◌+◌, ◌<◌, List, [], ◌∷◌, length, take, drop, slice_index_or, refl, ap, sym, ◌∙◌, add-one, drop-cons}
use Rattle.std.specs.Simd.{first_chunks}
use Rattle.records.specs.Pieces.{pieces_in}

pub chunks_are : (w k : ℕ) (bs : List ℕ) → first_chunks w k bs ≡ pieces_in k w bs
chunks_are w zero bs = refl
chunks_are w (suc k) bs = ap (λ ps. take w bs ∷ ps) (chunks_are w k (drop w bs))

-- the loop came to m at place i, and what remains leads from there to where all of it leads from s
abbrev pub Going : {S A : Type 0} (answer : S → List (List ℕ) → A) (s : S) (ps : List (List ℕ)) (m : S) (i : ℕ) → Type 0
Going answer s ps m i = answer m (drop i ps) ≡ answer s ps

-- one turn
pub go-more :
    {S A : Type 0} (answer : S → List (List ℕ) → A) (s : S) (ps : List (List ℕ)) (m : S) (i : ℕ) → Going answer s ps m i → i < length ps → (n : S)
    → answer m (slice_index_or ps i [] ∷ drop (i + 1) ps) ≡ answer n (drop (i + 1) ps) → Going answer s ps n (i + 1)
go-more answer s ps m i g h n turn = sym turn ∙ rw (add-one i) (rw (drop-cons ps i [] h) at g)
