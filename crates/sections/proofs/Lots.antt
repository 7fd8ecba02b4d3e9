-- A lot: sections in turn through the judge, and as each rank sees them through a tally. Where the judge takes each of them, all speak of one
-- recording, the uncut one, a walk over its records finds them where looking back does, and the search finds each where it stands in the files.
-- Assumes nothing.
use Rattle.std.specs.Prelude.{Some}
use Prim.Native.Nat.{ℕ, ◌+◌, ◌*◌, ◌/◌, ◌≤◌, ◌<◌}
use native.Mathlib.Nat.{zero-div}
use native.Mathlib.Omega.{arith}
use mathlib.Core.Bool.{Bool, true, false}
use mathlib.Core.List.{List, [], ◌∷◌, ◌++◌, map, reverse_aux}
use mathlib.Core.Path.{◌≡◌, refl, sym, ap, ◌∙◌, subst}
use lib.ListN.{length}
use borrow.Author.Tests.{eq-eqb}
use Rattle.laws.specs.Cuts.{uncut, Each}
use Rattle.records.specs.declared.Record.{Record}
use Rattle.records.specs.Record.{records}
use Rattle.records.proofs.Pieces.{map-append}
use Rattle.records.proofs.Records.{length-records}
use Rattle.wide.specs.Editions.{size, view}
use Rattle.wide.proofs.Editions.{count-both, view-none, view-both, view-sixes, view-count, second-most}
use Rattle.header.specs.declared.Header.{Header}
use Rattle.header.specs.Bytes.{edition_for}
use Rattle.chip.specs.Chip.{chip_of}
use Rattle.judge.specs.declared.State.{State}
use Rattle.running.specs.Ranges.{limit}
use Rattle.judge.specs.Calls.{open_of}
use Rattle.judge.proofs.Folds.{Short, short}
use Rattle.rules.specs.Past.{Past, edge, asleep, recording}
use Rattle.rules.proofs.Facts.{Sound}
use Rattle.rules.proofs.Cutting.{number-all}
use Rattle.sections.specs.Sections.{Opens, Even, after, refused, run as judge_run, taken as judge_taken, Judges}
use Rattle.sections.proofs.Section.{fits, Stands, refused-by}
use Rattle.sections.proofs.Sections.{sound-chip, opened, stands-more, sections-judged}
use Rattle.tally.specs.declared.Tally.{Tally}
use Rattle.tally.specs.Tally.{start}
use Rattle.tally.specs.Counts.{total}
use Rattle.tally.specs.Walk.{start as begin, reached_of}
use Rattle.tally.specs.Places.{start_of, records_of, numbered}
use Rattle.tally.proofs.Walking.{Small, walk, walk_is}
use Rattle.tally.proofs.Cuts.{run, Tells, sections-tallied, start-stands, Sixes, all-taken}
use Rattle.tally.specs.Search.{CutAs, find_all}
use Rattle.tally.proofs.Files.{search_is, in_turn, records-uncut}

-- the judge takes each section in its turn
abbrev pub AllTaken : State → List (List ℕ) → Type 0
AllTaken s [] = Unit
AllTaken s (xs ∷ xss) = (refused s xs ≡ 0) × AllTaken (after s xs) xss

-- then each ends between records, they keep the limit, and the judge has all of their bytes
whole :
    (h : Header) → Sound (chip_of h) → (e : ℕ) (xss : List (List ℕ)) (bs : List ℕ) (s : State) → Stands h e bs s → length bs / size e ≤ limit → AllTaken s xss
    → Each (Even e) xss × (length bs / size e + length (uncut xss) / size e ≤ limit) × (judge_taken s xss ≡ uncut xss)
whole h S e [] bs s a m t = (tt, omega (arith, zero-div (size e)), refl)
whole h S e (xs ∷ xss) bs s a m t =
    let f = fits e (length bs / size e) xs (sym (refused-by h S e bs s a xs) ∙ t.0) in
    let longer = count-both e bs xs a.even in
    let w = whole h S e xss (bs ++ xs) (after s xs) (stands-more h S e bs s a xs f) (omega (arith, f.room)) t.1 in
    ((f.even, w.0), omega (arith, w.1, count-both e xs (uncut xss) f.even), rw (eq-eqb _ _ t.0) (ap (λ ys. xs ++ ys) w.2))

-- ── As a rank sees the sections ─────────────────────────────────────────────────────────────

module _ (e : ℕ) (second : Bool) where
  abbrev pub seen : List (List ℕ) → List (List ℕ)
  seen = map (view e second)

  seen-sixes : (xss : List (List ℕ)) → Each (Even e) xss → Sixes (seen xss)
  seen-sixes [] w = tt
  seen-sixes (xs ∷ xss) w = (view-sixes e second xs w.0, seen-sixes xss w.1)

  seen-uncut : (xss : List (List ℕ)) → Each (Even e) xss → uncut (seen xss) ≡ view e second (uncut xss)
  seen-uncut [] w = sym (view-none e second)
  seen-uncut (xs ∷ xss) w = ap (λ ys. view e second xs ++ ys) (seen-uncut xss w.1) ∙ sym (view-both e second xs (uncut xss) w.0)

  seen_most : (bs : List ℕ) → length (view e second bs) / 6 ≤ length bs / size e
  seen_most bs = by second
    where
      by : (b : Bool) → length (view e b bs) / 6 ≤ length bs / size e
      by true = second-most e bs
      by false = omega (arith, view-count e bs)

  seen-turn : (cuts : List (List (List ℕ))) → in_turn (map seen cuts) ≡ seen (in_turn cuts)
  seen-turn [] = refl
  seen-turn (xss ∷ cuts) = ap (λ yss. seen xss ++ yss) (seen-turn cuts) ∙ sym (map-append (view e second) xss (in_turn cuts))

-- no edge lies further than its records' steps reach
edge-most : (rs : List Record) (p : Past) → Short rs → edge (reverse_aux rs p) ≤ edge p + 16777216 * length rs
edge-most [] p h = omega arith
edge-most (r ∷ rs) p h = omega (arith, h.0, edge-most rs (r ∷ p) h.1)

small : (bs : List ℕ) → length bs / 6 ≤ limit → Small (recording bs)
small bs most =
    let many = length-records bs in
    record {
      count = omega (arith, number-all (records bs) [], many);
      last = omega (arith, edge-most (records bs) [] (short bs), many);
    }

-- ── The lot ─────────────────────────────────────────────────────────────────────────────────

-- the judge's state, and a rank's tally, of the recording of the bytes bs
pub record OneLot (h : Header) (e : ℕ) (second : Bool) (bs : List ℕ) (s : State) (t : Tally) : Type 0 where
  pub judged : Judges h e bs s
  pub counted : Tells (view e second bs) t
  pub all : total t.counts ≡ length (view e second bs) / 6
  pub listed : (limit : ℕ) → walk limit (begin limit) (records (view e second bs)) ≡ reached_of limit (recording (view e second bs))

module _ (header : List ℕ) (h : Header) (o : Opens header h) where
  abbrev e : ℕ
  e = edition_for header

  all_in : (xss : List (List ℕ)) → AllTaken (open_of header).state xss
      → Each (Even e) xss × (0 / size e + length (uncut xss) / size e ≤ limit) × (judge_taken (open_of header).state xss ≡ uncut xss)
  all_in xss t =
      whole h (sound-chip header h o) e xss [] (open_of header).state (opened header h o) (omega (arith, zero-div (size e))) t

  -- it fits the limit, as each rank sees it
  seen_few : (second : Bool) (xss : List (List ℕ)) → AllTaken (open_of header).state xss → length (view e second (uncut xss)) / 6 ≤ limit
  seen_few second xss t = omega (arith, seen_most e second (uncut xss), (all_in xss t).1, zero-div (size e))

  module _ (second : Bool) where
    pub lot-is-one :
        (xss : List (List ℕ)) → AllTaken (open_of header).state xss
        → OneLot h e second (uncut xss) (judge_run (open_of header).state xss) (run start (seen e second xss))
    unfolding asleep
    lot-is-one xss t = record {
      judged = subst (λ bs. Judges h e bs (judge_run (open_of header).state xss)) (all_in xss t).2 (sections-judged header h o xss);
      counted = counted;
      all = counted.sum ∙ counted.number_is;
      listed = λ limit. walk_is limit (records (view e second (uncut xss))) [] (small (view e second (uncut xss)) (seen_few second xss t));
    }
      where
        even : Each (Even e) xss
        even = (all_in xss t).0

        few : length (uncut (seen e second xss)) / 6 ≤ limit
        few = omega (arith, ap length (seen-uncut e second xss even), seen_few second xss t)

        counted : Tells (view e second (uncut xss)) (run start (seen e second xss))
        counted =
            subst (λ bs. Tells bs (run start (seen e second xss)))
            (all-taken (seen e second xss) [] start start-stands (seen-sixes e second xss even) (omega (arith, few)) ∙ seen-uncut e second xss even)
            (sections-tallied (seen e second xss))

-- the records of a lot that the judge takes, in the files as given: in edition 2 in the bytes that a rank sees of them
pub record FoundLot (files : List (List ℕ)) (cuts : List (List (List ℕ))) : Type 0 where
  -- they are those of the uncut recording
  pub same : records_of true files ≡ records (uncut (in_turn cuts))
  -- and each is found where it stands
  pub each : length files < 18446744073709551616 → (limit k : ℕ) → k < length (records_of true files)
      → find_all (k + 1) true (start_of limit) cuts ≡ Some (numbered limit files k)

module _ (header : List ℕ) (h : Header) (o : Opens header h) (second : Bool) (files : List (List ℕ)) (cuts : List (List (List ℕ))) where
  pub lot-is-found : CutAs true files (map (seen (edition_for header) second) cuts) → AllTaken (open_of header).state (in_turn cuts)
      → FoundLot files (map (seen (edition_for header) second) cuts)
  lot-is-found c t = record {
    same = same;
    each = λ few limit k l. search_is limit files viewed c most few k l;
  }
    where
      viewed : List (List (List ℕ))
      viewed = map (seen (edition_for header) second) cuts

      even : Each (Even (edition_for header)) (in_turn cuts)
      even = (all_in header h o (in_turn cuts) t).0

      sixes : Sixes (in_turn viewed)
      sixes = rw (seen-turn (edition_for header) second cuts) (seen-sixes (edition_for header) second (in_turn cuts) even)

      same : records_of true files ≡ records (uncut (in_turn viewed))
      same = records-uncut true files viewed c sixes

      all : uncut (in_turn viewed) ≡ view (edition_for header) second (uncut (in_turn cuts))
      all = ap uncut (seen-turn (edition_for header) second cuts) ∙ seen-uncut (edition_for header) second (in_turn cuts) even

      most : length (records_of true files) ≤ limit
      most = omega (arith, ap length same, length-records (uncut (in_turn viewed)), ap length all, seen_few header h o second (in_turn cuts) t)
