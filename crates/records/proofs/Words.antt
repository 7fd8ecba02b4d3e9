-- The words of a section's bytes: the next, none, those of two parts, how many, where each stands; and their records.
-- Assumes nothing.
use Prim.Native.Nat.{ℕ, zero, suc, ◌+◌, ◌*◌, ◌/◌, ◌%◌, ◌≤◌, ◌<◌}
use native.Mathlib.Nat.{add-zero}
use native.Mathlib.Omega.{arith}
use mathlib.Core.List.{List, [], ◌∷◌, ◌++◌, map}
use mathlib.Core.Path.{◌≡◌, refl, ap, ◌∙◌}
use lib.ListN.{length, get_or, take, drop, length-drop, length-map}
use lib.Seq.{get_or-take, get_or-drop, drop-drop}
use Rattle.records.specs.Pieces.{pieces}
use Rattle.records.specs.Record.{fields_of, word_at, record_at, words, records}
use Rattle.records.proofs.Pieces.{length-pieces, no-piece, next-piece, pieces-append, map-append}

pub front : (bs : List ℕ) → word_at (take 6 bs) 0 ≡ word_at bs 0
front bs =
    rw (get_or-take 6 bs 0 0 (omega arith), get_or-take 6 bs 1 0 (omega arith), get_or-take 6 bs 2 0 (omega arith), get_or-take 6 bs 3 0 (omega arith), get_or-take 6 bs 4 0 (omega arith), get_or-take 6 bs 5 0 (omega arith))

six : (l : List ℕ) → 6 ≤ length l → words l ≡ word_at l 0 ∷ words (drop 6 l)
six l h = ap (map (λ xs. word_at xs 0)) (next-piece 6 (omega arith) l h) ∙ ap (λ w. w ∷ words (drop 6 l)) (front l)

pub word-step : (bs : List ℕ) (at : ℕ) → at + 6 ≤ length bs → words (drop at bs) ≡ word_at bs at ∷ words (drop (at + 6) bs)
word-step bs at h = six (drop at bs) (simp length-drop (omega arith)) ∙ simp (get_or-drop, drop-drop, add-zero)

-- fewer than six bytes make no record
pub no_word : (l : List ℕ) → length l < 6 → words l ≡ []
no_word l h = ap (map (λ xs. word_at xs 0)) (no-piece 6 l h)

fields : (ps : List (List ℕ)) → map (λ xs. record_at xs 0) ps ≡ map fields_of (map (λ xs. word_at xs 0) ps)
fields [] = refl
fields (p ∷ ps) = ap (λ rs. record_at p 0 ∷ rs) (fields ps)

pub records-words : (bs : List ℕ) → records bs ≡ map fields_of (words bs)
records-words bs = fields (pieces 6 bs)

-- whole records, then more
pub words_append : (xs ys : List ℕ) → length xs % 6 ≡ 0 → words (xs ++ ys) ≡ words xs ++ words ys
words_append xs ys h =
    ap (map (λ zs. word_at zs 0)) (pieces-append 6 (omega arith) xs ys h) ∙ map-append (λ zs. word_at zs 0) (pieces 6 xs) (pieces 6 ys)

pub length-words : (bs : List ℕ) → length (words bs) ≡ length bs / 6
length-words bs = length-map (pieces 6 bs) (λ xs. word_at xs 0) ∙ length-pieces 6 bs

at_drop : (a : ℕ) (bs : List ℕ) (i j : ℕ) → get_or (drop a bs) (i + j) 0 ≡ get_or bs (a + i + j) 0
at_drop a bs i j = get_or-drop a bs (i + j) 0 ∙ ap (λ k. get_or bs k 0) (omega arith)

-- behind the bytes before a
pub word-drop : (a : ℕ) (bs : List ℕ) (i : ℕ) → word_at (drop a bs) i ≡ word_at bs (a + i)
word-drop a bs i =
    rw (get_or-drop a bs i 0, at_drop a bs i 1, at_drop a bs i 2, at_drop a bs i 3, at_drop a bs i 4, at_drop a bs i 5)

-- the record behind i others stands behind 6 * i bytes
pub word-is : (bs : List ℕ) (i : ℕ) → 6 * i + 6 ≤ length bs → get_or (words bs) i 0 ≡ word_at bs (6 * i)
word-is bs zero h = ap (λ ws. get_or ws 0 0) (six bs (omega arith))
word-is bs (suc i) h =
    ap (λ ws. get_or ws (suc i) 0) (six bs (omega arith)) ∙ word-is (drop 6 bs) i (simp length-drop (omega arith))
    ∙ word-drop 6 bs (6 * i) ∙ ap (word_at bs) (omega arith)
