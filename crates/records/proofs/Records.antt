-- The records of a section's bytes: the next, none, those of two parts, how many.
-- Assumes nothing.
use Prim.Native.Nat.{ℕ, ◌+◌, ◌/◌, ◌%◌, ◌≤◌, ◌<◌}
use native.Mathlib.Nat.{add-zero}
use native.Mathlib.Omega.{arith}
use mathlib.Core.List.{List, [], ◌∷◌, ◌++◌, map}
use mathlib.Core.Path.{◌≡◌, ap, ◌∙◌}
use lib.ListN.{length, take, drop, length-drop, drop_of_length-le, length-map}
use lib.Seq.{get_or-drop, drop-drop}
use Rattle.records.specs.Pieces.{pieces}
use Rattle.records.specs.Record.{fields_of, record_at, records}
use Rattle.records.proofs.Pieces.{length-pieces, no-piece, next-piece, pieces-append, map-append}
use Rattle.records.proofs.Words as words

pub front : (bs : List ℕ) → record_at (take 6 bs) 0 ≡ record_at bs 0
front bs = ap fields_of (words.front bs)

next-record : (bs : List ℕ) → 6 ≤ length bs → records bs ≡ record_at bs 0 ∷ records (drop 6 bs)
next-record bs enough =
    ap (map (λ xs. record_at xs 0)) (next-piece 6 (omega arith) bs enough) ∙ ap (λ r. r ∷ records (drop 6 bs)) (front bs)

pub at-step : (bs : List ℕ) (at : ℕ) → at + 6 ≤ length bs → records (drop at bs) ≡ record_at bs at ∷ records (drop (at + 6) bs)
at-step bs at h = next-record (drop at bs) (simp length-drop (omega arith)) ∙ simp (get_or-drop, drop-drop, add-zero)

pub no_record : (bs : List ℕ) → length bs < 6 → records bs ≡ []
no_record bs few = ap (map (λ xs. record_at xs 0)) (no-piece 6 bs few)

pub records-append : (xs ys : List ℕ) → length xs % 6 ≡ 0 → records (xs ++ ys) ≡ records xs ++ records ys
records-append xs ys h =
    ap (map (λ zs. record_at zs 0)) (pieces-append 6 (omega arith) xs ys h) ∙ map-append (λ zs. record_at zs 0) (pieces 6 xs) (pieces 6 ys)

-- a record takes six bytes
pub length-records : (bs : List ℕ) → length (records bs) ≡ length bs / 6
length-records bs = length-map (pieces 6 bs) (λ xs. record_at xs 0) ∙ length-pieces 6 bs

pub at-end : (bs : List ℕ) (at : ℕ) → length bs ≤ at → records (drop at bs) ≡ []
at-end bs at h = rw drop_of_length-le

-- a step has 24 bits
step_small : (w : ℕ) → (fields_of w).step < 16777216
unfolding fields_of
step_small w = omega arith

pub step-at : (bs : List ℕ) (at : ℕ) → (record_at bs at).step < 16777216
step-at bs at = step_small _
