-- Where the records of a lot stand: the six bytes of each lie in the file and at the byte that are told.
-- Assumes nothing.
use Rattle.std.proofs.Common.{◌≡◌, ℕ, ◌+◌, ◌-◌, ◌*◌, ◌<◌, ◌≤◌, Bool, true, false, ltb, List, [], ◌∷◌, length, get_or, sym, ap, ◌∙◌, ⊎_elim, add-one, arith, length-append, length-drop, get_or-append-add, ltb-false, ltb-true}
use lib.ListN.{length-map, get_or-map, get_or-append}
use Rattle.records.specs.Record.{fields_of, records, record_at, word_at, words}
use Rattle.records.proofs.Words.{records-words, length-words, word-drop, word-is}
use Rattle.rules.proofs.Generic.{decide}
use Rattle.tally.specs.Places.{skip_of, body_of, records_of, holds, files_before, byte_of, file_of}

pub skip-most : (headed : Bool) → skip_of headed ≤ 6
skip-most true = omega arith
skip-most false = omega arith

-- ── One file ────────────────────────────────────────────────────────────────────────────────

module _ (h : Bool) (bs : List ℕ) where
  pub count-words : length (words (body_of h bs)) ≡ holds h bs
  count-words = length-words (body_of h bs)

  pub count-records : length (records (body_of h bs)) ≡ holds h bs
  count-records = ap length (records-words (body_of h bs)) ∙ length-map (words (body_of h bs)) fields_of ∙ count-words

  pub count-more : (files : List (List ℕ)) → length (records_of h (bs ∷ files)) ≡ holds h bs + length (records_of false files)
  count-more files =
      length-append (records (body_of h bs)) (records_of false files) ∙ ap (λ (m : ℕ). m + length (records_of false files)) count-records

  -- the record behind k others of the file
  pub word-there : (k : ℕ) → k < holds h bs → get_or (words (body_of h bs)) k 0 ≡ word_at bs (skip_of h + 6 * k)
  word-there k l = word-is (body_of h bs) k (omega arith) ∙ word-drop (skip_of h) bs (6 * k)

  room-there : (k : ℕ) → k < holds h bs → skip_of h + 6 * k + 6 ≤ length bs
  room-there k l = omega (arith, length-drop (skip_of h) bs)

  record-there : (k : ℕ) → k < holds h bs → get_or (records (body_of h bs)) k (fields_of 0) ≡ record_at bs (skip_of h + 6 * k)
  record-there k l =
      ap (λ rs. get_or rs k (fields_of 0)) (records-words (body_of h bs)) ∙ get_or-map fields_of (words (body_of h bs)) k 0 ∙ ap fields_of (word-there k l)

-- ── Where a record stands ───────────────────────────────────────────────────────────────────

-- the six bytes of the record behind k others: in a file, at a byte of it, and which record of the lot they are
pub record Standing (headed : Bool) (files : List (List ℕ)) (k : ℕ) : Type 0 where
  pub among : files_before headed files k < length files
  pub within : byte_of headed files k + 6 ≤ length (file_of headed files k)
  pub same : record_at (file_of headed files k) (byte_of headed files k) ≡ get_or (records_of headed files) k (fields_of 0)

module _ (h : Bool) (bs : List ℕ) (files : List (List ℕ)) (k : ℕ) where
  -- in the first file
  stands-first : ltb k (holds h bs) ≡ true → Standing h (bs ∷ files) k
  stands-first y =
      let less = ltb-true k (holds h bs) y in
      record {
        among = rw y (omega arith);
        within = rw y (room-there h bs k less);
        same = rw y (sym (record-there h bs k less)
            ∙ sym (get_or-append (records (body_of h bs)) (records_of false files) (fields_of 0) k (omega (arith, count-records h bs))));
      }

  module _ (z : ltb k (holds h bs) ≡ false) where
    pub split : length (records (body_of h bs)) + (k - holds h bs) ≡ k
    split = omega (arith, count-records h bs, ltb-false k (holds h bs) z)

    record-later : get_or (records_of false files) (k - holds h bs) (fields_of 0) ≡ get_or (records_of h (bs ∷ files)) k (fields_of 0)
    record-later =
        sym (get_or-append-add (records (body_of h bs)) (records_of false files) (k - holds h bs) (fields_of 0))
        ∙ ap (λ (j : ℕ). get_or (records_of h (bs ∷ files)) j (fields_of 0)) split

    -- in a later one
    stands-later : Standing false files (k - holds h bs) → Standing h (bs ∷ files) k
    stands-later s =
        let one = add-one (files_before false files (k - holds h bs)) in
        record { among = rw z (omega (arith, s.among)); within = rw (z, one) s.within; same = rw (z, one) (s.same ∙ record-later) }

    pub left_over : k < length (records_of h (bs ∷ files)) → k - holds h bs < length (records_of false files)
    left_over l = omega (arith, ltb-false k (holds h bs) z, l, count-more h bs files)

pub stands : (h : Bool) (files : List (List ℕ)) (k : ℕ) → k < length (records_of h files) → Standing h files k
stands h [] k l = absurd (omega arith)
stands h (bs ∷ files) k l = ⊎_elim
    (stands-first h bs files k)
    (λ (z : ltb k (holds h bs) ≡ false). stands-later h bs files k z (stands false files (k - holds h bs) (left_over h bs files k z l)))
    (decide (ltb k (holds h bs)))
