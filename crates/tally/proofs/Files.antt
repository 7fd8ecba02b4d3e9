-- The records of a lot are found where they stand: however its files are cut into sections, the search for a number answers the record of that
-- number in the files as given.
-- Assumes nothing.
use Rattle.std.proofs.Common.{Some, None, ◌≡◌, ℕ, ◌+◌, ◌-◌, ◌*◌, ◌<◌, ◌≤◌, Bool, true, false, ltb, List, [], ◌∷◌, ◌++◌, map, length, get_or, take, sym, refl, ap, ◌∙◌, ⊎_elim, append_assoc, add-one, arith, ltb-false, ltb-true}
use mathlib.Core.List.{reverse_aux}
use lib.Seq.{take-append-le, take-append-add}
use Rattle.records.specs.Record.{fields_of, records, record_at, word_at, words}
use Rattle.records.proofs.Words.{records-words}
use Rattle.running.specs.Ranges.{limit}
use Rattle.rules.specs.Past.{Past, number, asleep}
use Rattle.rules.proofs.Cutting.{number-all, reverse-append}
use Rattle.records.proofs.Records.{records-append}
use Rattle.rules.proofs.Generic.{decide}
use Rattle.tally.specs.declared.Placed.{Placed}
use Rattle.tally.specs.Walk.{event_of}
use Rattle.tally.specs.Places.{skip_of, start_of, begun_of}
use Rattle.tally.specs.Places.{body_of, records_of, holds, files_before, byte_of, file_of, numbered}
use Rattle.tally.proofs.Cuts.{Sixes, uncut-sixes}
use Rattle.tally.proofs.Walking.{keeps}
use Rattle.tally.proofs.Placing.{Reachable, reachable-all, spot_of, found_at, find_at, pass-is, find_none}
use Rattle.tally.specs.Search.{first, pass_in, find_in, find_all, Cut, CutAs}
use Rattle.laws.specs.Cuts.{uncut}
use Rattle.tally.proofs.Seeking.{pass-file, find-file}
use Rattle.tally.proofs.Standing.{skip-most, count-words, count-records, count-more, word-there, split, left_over}

-- ── The search ──────────────────────────────────────────────────────────────────────────────

-- nothing wraps behind the recording p and f files
record Room (h : Bool) (files : List (List ℕ)) (p : Past) (f : ℕ) : Type 0 where
  reach : Reachable p
  most : number p + length (records_of h files) ≤ limit
  few : f + length files < 18446744073709551616

module _ (t : ℕ) where
  begun-is : (h : Bool) (p : Past) (f a : ℕ) → f + 1 < 18446744073709551616 → begun_of (spot_of t f p a) h ≡ spot_of t (f + 1) p (skip_of h)
  unfolding begun_of
  begun-is h p f a l = rw (keeps (f + 1) l)

  -- the record behind k others of these files, which stand behind the recording p
  abbrev numbered_from : Past → Bool → List (List ℕ) → (k file : ℕ) → Placed
  numbered_from p h files k file = record {
    found = event_of t (record_at (file_of h files k) (byte_of h files k)) (reverse_aux (take k (records_of h files)) p);
    file = file;
    at = byte_of h files k;
    word = word_at (file_of h files k) (byte_of h files k);
  }

  module _ (h : Bool) (bs : List ℕ) (files : List (List ℕ)) (p : Past) where
    -- the recording behind the first of the files, and the byte there
    abbrev onward : Past
    onward = reverse_aux (records (body_of h bs)) p

    abbrev behind : ℕ
    behind = skip_of h + 6 * length (words (body_of h bs))

    -- a record of the first
    first-is : (k file : ℕ) → ltb k (holds h bs) ≡ true
        → found_at t file (reverse_aux (take k (map fields_of (words (body_of h bs)))) p) (skip_of h + 6 * k) (get_or (words (body_of h bs)) k 0)
        ≡ numbered_from p h (bs ∷ files) k file
    first-is k file y = rw (y, word-there h bs k (ltb-true k (holds h bs) y), past)
      where
        past : take k (map fields_of (words (body_of h bs))) ≡ take k (records_of h (bs ∷ files))
        past =
            ap (take k) (sym (records-words (body_of h bs)))
            ∙ sym (take-append-le k (records (body_of h bs)) (records_of false files) (omega (arith, count-records h bs, ltb-true k (holds h bs) y)))

    -- a record of a later one
    later-is : (k file : ℕ) → ltb k (holds h bs) ≡ false
        → numbered_from onward false files (k - holds h bs) file ≡ numbered_from p h (bs ∷ files) k file
    later-is k file z = rw (z, add-one (files_before false files (k - holds h bs)), past)
      where
        past : reverse_aux (take k (records_of h (bs ∷ files))) p ≡ reverse_aux (take (k - holds h bs) (records_of false files)) onward
        past =
            ap (λ (j : ℕ). reverse_aux (take j (records_of h (bs ∷ files))) p) (sym (split h bs files k z))
            ∙ ap (λ rs. reverse_aux rs p) (take-append-add (records (body_of h bs)) (records_of false files) (k - holds h bs))
            ∙ reverse-append (records (body_of h bs)) (take (k - holds h bs) (records_of false files)) p

    module _ (xss : List (List ℕ)) (c : Cut h bs xss) (f a : ℕ) (q : Room h (bs ∷ files) p f) where
      begun : begun_of (spot_of t f p a) h ≡ spot_of t (f + 1) p (skip_of h)
      begun = begun-is h p f a (omega (arith, q.few))

      fits : number p + length (words (body_of h bs)) ≤ limit
      fits = omega (arith, q.most, count-more h bs files, count-words h bs)

      room : skip_of h + 6 * length (words (body_of h bs)) < 18446744073709551616
      room = omega (arith, fits, skip-most h)

      found_first : (k n : ℕ) → n ≡ number p + 1 + k → ltb k (holds h bs) ≡ true
          → find_in n (begun_of (spot_of t f p a) h) xss ≡ Some (numbered_from p h (bs ∷ files) k (f + 1))
      found_first k n e y =
          ap (λ s. find_in n s xss) begun ∙ find-file h bs xss c (spot_of t (f + 1) p (skip_of h)) n
          ∙ find_at t (f + 1) (words (body_of h bs)) k (skip_of h) p q.reach fits room (omega (arith, count-words h bs, ltb-true k (holds h bs) y)) n
          (skip_of h + 6 * k) e refl
          ∙ ap Some (first-is k (f + 1) y)

      found-later : (n : ℕ) → number p + holds h bs < n → n < 18446744073709551616 → find_in n (begun_of (spot_of t f p a) h) xss ≡ None
      found-later n l m =
          ap (λ s. find_in n s xss) begun ∙ find-file h bs xss c (spot_of t (f + 1) p (skip_of h)) n
          ∙ find_none n (words (body_of h bs)) (spot_of t (f + 1) p (skip_of h)) (omega (arith, count-words h bs)) m

      passed_first : pass_in (begun_of (spot_of t f p a) h) xss ≡ spot_of t (f + 1) onward behind
      passed_first =
          ap (λ s. pass_in s xss) begun ∙ pass-file h bs xss c (spot_of t (f + 1) p (skip_of h))
          ∙ pass-is t (f + 1) (words (body_of h bs)) (skip_of h) p q.reach fits room behind refl
          ∙ ap (λ rs. spot_of t (f + 1) (reverse_aux rs p) behind) (sym (records-words (body_of h bs)))

      -- the search goes on in the later files
      goes_on : (cuts : List (List (List ℕ))) (n : ℕ) → number p + holds h bs < n → n < 18446744073709551616
          → find_all n h (spot_of t f p a) (xss ∷ cuts) ≡ find_all n false (spot_of t (f + 1) onward behind) cuts
      goes_on cuts n l m =
          ap (λ x. first x (find_all n false (pass_in (begun_of (spot_of t f p a) h) xss) cuts)) (found-later n l m)
          ∙ ap (λ s. find_all n false s cuts) passed_first

      number-onward : number onward ≡ number p + holds h bs
      number-onward = number-all (records (body_of h bs)) p ∙ ap (λ (m : ℕ). number p + m) (count-records h bs)

      room-onward : Room false files onward (f + 1)
      room-onward = record {
        reach = rw (records-words (body_of h bs)) (reachable-all (words (body_of h bs)) p q.reach);
        most = omega (arith, number-onward, q.most, count-more h bs files);
        few = omega (arith, q.few);
      }

      -- found in the first file
      found_here : (cuts : List (List (List ℕ))) (k n : ℕ) → n ≡ number p + 1 + k → ltb k (holds h bs) ≡ true
          → find_all n h (spot_of t f p a) (xss ∷ cuts) ≡ Some (numbered_from p h (bs ∷ files) k (f + files_before h (bs ∷ files) k + 1))
      found_here cuts k n e y =
          ap (λ x. first x (find_all n false (pass_in (begun_of (spot_of t f p a) h) xss) cuts)) (found_first k n e y)
          ∙ ap (λ (file : ℕ). Some (numbered_from p h (bs ∷ files) k file)) (rw y (omega arith))

      -- or in a later one
      found-there : (cuts : List (List (List ℕ))) (k n : ℕ) → n ≡ number p + 1 + k → n ≤ limit → ltb k (holds h bs) ≡ false
          → find_all n false (spot_of t (f + 1) onward behind) cuts
          ≡ Some (numbered_from onward false files (k - holds h bs) (f + 1 + files_before false files (k - holds h bs) + 1))
          → find_all n h (spot_of t f p a) (xss ∷ cuts) ≡ Some (numbered_from p h (bs ∷ files) k (f + files_before h (bs ∷ files) k + 1))
      found-there cuts k n e m z more =
          goes_on cuts n (omega (arith, e, ltb-false k (holds h bs) z)) (omega (arith, m)) ∙ more
          ∙ ap Some (later-is k (f + 1 + files_before false files (k - holds h bs) + 1) z)
          ∙ ap (λ (file : ℕ). Some (numbered_from p h (bs ∷ files) k file)) (rw z (omega arith))

  found_from :
      (files : List (List ℕ)) (cuts : List (List (List ℕ))) (h : Bool) (p : Past) (f a k n : ℕ) → CutAs h files cuts → Room h files p f
      → k < length (records_of h files) → n ≡ number p + 1 + k
      → find_all n h (spot_of t f p a) cuts ≡ Some (numbered_from p h files k (f + files_before h files k + 1))
  found_from [] cuts h p f a k n c q l e = absurd (omega (arith, l))
  found_from (bs ∷ files) [] h p f a k n c q l e = absurd c
  found_from (bs ∷ files) (xss ∷ cuts) h p f a k n c q l e = ⊎_elim
      (found_here h bs files p xss c.0 f a q cuts k n e)
      (λ (z : ltb k (holds h bs) ≡ false). found-there h bs files p xss c.0 f a q cuts k n e (omega (arith, e, l, q.most)) z
      (found_from files cuts false (onward h bs files p) (f + 1) (behind h bs files p) (k - holds h bs) n c.1
      (room-onward h bs files p xss c.0 f a q) (left_over h bs files k z l)
      (omega (arith, e, number-onward h bs files p xss c.0 f a q, ltb-false k (holds h bs) z))))
      (decide (ltb k (holds h bs)))

  none_from :
      (files : List (List ℕ)) (cuts : List (List (List ℕ))) (h : Bool) (p : Past) (f a n : ℕ) → CutAs h files cuts → Room h files p f
      → number p + length (records_of h files) < n → n < 18446744073709551616 → find_all n h (spot_of t f p a) cuts ≡ None
  none_from [] [] h p f a n c q l m = refl
  none_from [] (xss ∷ cuts) h p f a n c q l m = absurd c
  none_from (bs ∷ files) [] h p f a n c q l m = absurd c
  none_from (bs ∷ files) (xss ∷ cuts) h p f a n c q l m =
      goes_on h bs files p xss c.0 f a q cuts n (omega (arith, l, count-more h bs files)) m
      ∙ none_from files cuts false (onward h bs files p) (f + 1) (behind h bs files p) n c.1 (room-onward h bs files p xss c.0 f a q)
      (omega (arith, l, count-more h bs files, number-onward h bs files p xss c.0 f a q)) m

-- ── However the files are cut between records ───────────────────────────────────────────────

module _ (t : ℕ) (files : List (List ℕ)) (cuts : List (List (List ℕ))) (c : CutAs true files cuts) (most : length (records_of true files) ≤ limit)
    (few : length files < 18446744073709551616) where
  start-room : Room true files [] 0
  start-room = record { reach = omega arith; most = omega (arith, most); few = omega (arith, few) }

  -- each record is found where it stands
  pub search_is : (k : ℕ) → k < length (records_of true files) → find_all (k + 1) true (start_of t) cuts ≡ Some (numbered t files k)
  unfolding asleep
  search_is k l =
      found_from t files cuts true [] 0 0 k (k + 1) c start-room l (omega arith)
      ∙ ap (λ (file : ℕ). Some (numbered_from t [] true files k file)) (omega arith)

  -- and no other
  pub search-none : (n : ℕ) → length (records_of true files) < n → n < 18446744073709551616 → find_all n true (start_of t) cuts ≡ None
  unfolding asleep
  search-none n l m = none_from t files cuts true [] 0 0 n c start-room (omega (arith, l)) m

-- ── Files whose sections all end between records ────────────────────────────────────────────

-- the sections of all files, in turn
abbrev pub in_turn : List (List (List ℕ)) → List (List ℕ)
in_turn [] = []
in_turn (xss ∷ cuts) = xss ++ in_turn cuts

uncut-append : (xss yss : List (List ℕ)) → uncut (xss ++ yss) ≡ uncut xss ++ uncut yss
uncut-append [] yss = refl
uncut-append (xs ∷ xss) yss = ap (λ ys. xs ++ ys) (uncut-append xss yss) ∙ sym (append_assoc xs (uncut xss) (uncut yss))

sixes-append : (xss yss : List (List ℕ)) → Sixes (xss ++ yss) → Sixes xss × Sixes yss
sixes-append [] yss w = (tt, w)
sixes-append (xs ∷ xss) yss w = let v = sixes-append xss yss w.1 in ((w.0, v.0), v.1)

-- the lot's records are those of the uncut bytes
pub records-uncut :
    (h : Bool) (files : List (List ℕ)) (cuts : List (List (List ℕ))) → CutAs h files cuts → Sixes (in_turn cuts)
    → records_of h files ≡ records (uncut (in_turn cuts))
records-uncut h [] [] c w = refl
records-uncut h [] (xss ∷ cuts) c w = absurd c
records-uncut h (bs ∷ files) [] c w = absurd c
records-uncut h (bs ∷ files) (xss ∷ cuts) c w =
    let v = sixes-append xss (in_turn cuts) w in
    ap (λ rs. records (body_of h bs) ++ rs) (records-uncut false files cuts c.1 v.1)
    ∙ ap (λ ys. records ys ++ records (uncut (in_turn cuts))) (sym c.0.bytes)
    ∙ sym (records-append (uncut xss) (uncut (in_turn cuts)) (uncut-sixes xss v.0)) ∙ ap records (sym (uncut-append xss (in_turn cuts)))
