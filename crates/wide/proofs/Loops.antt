-- The loops that move a section's records: what was moved lies in front of the lent bytes, and a turn adds a record.
-- Assumes nothing.
use Prim.Native.Nat.{ℕ, ◌+◌, ◌-◌, ◌*◌, ◌/◌, ◌%◌, ◌≤◌, ◌<◌, min}
use native.Mathlib.Nat.{add-zero}
use native.Mathlib.Omega.{arith}
use mathlib.Core.Bool.{Bool, false, not, ◌||◌, or-false}
use mathlib.Core.List.{List, [], ◌∷◌, ◌++◌, map, append-nil}
use mathlib.Core.Path.{◌≡◌, refl, sym, ap, ◌∙◌, subst}
use lib.Dec.{eqb}
use lib.ListN.{length, take, drop, length-append, length-take, length-drop, take-append-drop, drop_of_length-le}
use lib.Seq.{get_or-drop, take_at, drop-append-add, length-take-le, drop-drop, take-take, take-add, take_all}
use Rattle.records.specs.Pieces.{pieces, pieces_in}
use Rattle.records.specs.Record as old
use Rattle.records.proofs.Pieces.{no-piece, pieces-append}
use Rattle.records.proofs.Records.{front}
use Rattle.wide.specs.declared.Part.{Part}
use Rattle.wide.specs.Spread.{spread}
use Rattle.wide.specs.Wide.{wide_at, wides, rank_of, has_spare}
use Rattle.wide.specs.Moved.{packed, bytes6, packed_wide, bytes8, widened, widen, narrow}
use Rattle.wide.specs.Promises.{Narrowed, Widened}
use Rattle.wide.proofs.Wides.{piece-at, wides-append, spare_of}
use Rattle.wide.proofs.Moving.{eight, narrow-append, length-narrow, widen-append, length-widen}

-- ── Lent bytes ──────────────────────────────────────────────────────────────────────────────

-- behind what lies in front, more is put
lay-more : (xs ys before out after : List ℕ) (n m : ℕ) → length xs ≡ n → length ys ≡ m → out ≡ xs ++ drop n before
    → after ≡ take n out ++ ys ++ drop (n + m) out → after ≡ (xs ++ ys) ++ drop (n + m) before
lay-more xs ys before out after n m xn ym lies put =
    put ∙ rw (lies, take_at xs (drop n before) n xn, ← xn, drop-append-add xs (drop (length xs) before) m, drop-drop m (length xs) before)

-- ── Whole pieces ────────────────────────────────────────────────────────────────────────────

module _ (k : ℕ) (some : 0 < k) where
  -- bytes behind the last whole piece give none
  pub whole : (bs : List ℕ) (n : ℕ) → n % k ≡ 0 → n ≤ length bs → length bs < n + k → pieces k (take n bs) ≡ pieces k bs
  whole bs n e within few =
      sym (append-nil (pieces k (take n bs))) ∙ ap (λ ps. pieces k (take n bs) ++ ps) (sym (no-piece k (drop n bs) (omega (arith, length-drop n bs))))
      ∙ sym (pieces-append k some (take n bs) (drop n bs) (ap (λ (m : ℕ). m % k) (length-take-le n bs within) ∙ e))
      ∙ ap (pieces k) (take-append-drop n bs)

  -- one
  one_piece : (ys : List ℕ) → k ≤ length ys → k / k ≡ 1 → pieces k (take k ys) ≡ take k ys ∷ []
  one_piece ys enough e =
      ap (λ (n : ℕ). pieces_in n k (take k ys)) (ap (λ (n : ℕ). n / k) (length-take-le k ys enough) ∙ e)
      ∙ ap (λ xs. xs ∷ []) (take-take k k ys (omega arith))

-- as many as there are, and as there is room for
some-eights : (bs : List ℕ) (room : ℕ) → pieces 8 (take (8 * min (length bs / 8) room) bs) ≡ pieces 8 (take (8 * room) bs)
some-eights bs room =
    let n = 8 * min (length bs / 8) room in
    ap (pieces 8) (sym (take-take n (8 * room) bs (omega arith)))
    ∙ whole 8 (omega arith) (take (8 * room) bs) n (omega arith) (omega (arith, length-take (8 * room) bs)) (omega (arith, length-take (8 * room) bs))

some-sixes : (bs : List ℕ) (room : ℕ) → pieces 6 (take (6 * min (length bs / 6) room) bs) ≡ pieces 6 (take (6 * room) bs)
some-sixes bs room =
    let n = 6 * min (length bs / 6) room in
    ap (pieces 6) (sym (take-take n (6 * room) bs (omega arith)))
    ∙ whole 6 (omega arith) (take (6 * room) bs) n (omega arith) (omega (arith, length-take (6 * room) bs)) (omega (arith, length-take (6 * room) bs))

-- ── Narrowing ───────────────────────────────────────────────────────────────────────────────

one-wide : (bs : List ℕ) (at : ℕ) → at + 8 ≤ length bs → wides (take 8 (drop at bs)) ≡ wide_at bs at ∷ []
one-wide bs at h =
    ap (map (λ xs. wide_at xs 0)) (one_piece 8 (omega arith) (drop at bs) (omega (arith, length-drop at bs)) refl) ∙ ap (λ w. w ∷ []) (piece-at bs at)

pub one-narrow : (second : Bool) (bs : List ℕ) (at : ℕ) → at + 8 ≤ length bs → narrow second (take 8 (drop at bs)) ≡ bytes6 (packed (rank_of second (wide_at bs at)))
one-narrow second bs at h = ap (spread (λ w. bytes6 (packed (rank_of second w)))) (one-wide bs at h) ∙ append-nil _

pub one-spare : (bs : List ℕ) (at : ℕ) → at + 8 ≤ length bs → has_spare (wides (take 8 (drop at bs))) ≡ not (eqb (wide_at bs at).zero 0)
one-spare bs at h = ap has_spare (one-wide bs at h) ∙ or-false _

-- the first i records, and k more
module _ (bs : List ℕ) (i k : ℕ) (there : 8 * i + 8 * k ≤ length bs) where
  length_taken : length (take (8 * i) bs) ≡ 8 * i
  length_taken = length-take-le (8 * i) bs (omega arith)

  more-taken : take (8 * (i + k)) bs ≡ take (8 * i) bs ++ take (8 * k) (drop (8 * i) bs)
  more-taken = let e : 8 * (i + k) ≡ 8 * i + 8 * k = omega arith in ap (λ (m : ℕ). take m bs) e ∙ take-add (8 * i) (8 * k) bs

  pub more-narrow : (second : Bool) → narrow second (take (8 * (i + k)) bs) ≡ narrow second (take (8 * i) bs) ++ narrow second (take (8 * k) (drop (8 * i) bs))
  more-narrow second =
      ap (narrow second) more-taken ∙ narrow-append second (take (8 * i) bs) (take (8 * k) (drop (8 * i) bs)) (omega (arith, length_taken))

  pub more-spare : has_spare (wides (take (8 * (i + k)) bs)) ≡ has_spare (wides (take (8 * i) bs)) || has_spare (wides (take (8 * k) (drop (8 * i) bs)))
  more-spare =
      ap (λ xs. has_spare (wides xs)) more-taken
      ∙ ap has_spare (wides-append (take (8 * i) bs) (take (8 * k) (drop (8 * i) bs)) (omega (arith, length_taken)))
      ∙ spare_of (wides (take (8 * i) bs)) (wides (take (8 * k) (drop (8 * i) bs)))

-- i records were narrowed
pub record Narrowing (bs : List ℕ) (second : Bool) (before out : List ℕ) (spare : Bool) (i : ℕ) : Type 0 where
  pub lies : out ≡ narrow second (take (8 * i) bs) ++ drop (6 * i) before
  pub seen : spare ≡ has_spare (wides (take (8 * i) bs))

pub narrow_start : (bs : List ℕ) (second : Bool) (before : List ℕ) → Narrowing bs second before before false 0
narrow_start bs second before = record { lies = refl; seen = refl }

module _ (bs : List ℕ) (second : Bool) (before out : List ℕ) (spare : Bool) (i : ℕ) (n : Narrowing bs second before out spare i) where
  -- and k more, ys, put behind them
  pub narrow-row : (k : ℕ) → 8 * i + 8 * k ≤ length bs → (ys : List ℕ) → ys ≡ narrow second (take (8 * k) (drop (8 * i) bs))
      → (s : Bool) → s ≡ has_spare (wides (take (8 * k) (drop (8 * i) bs)))
      → (after : List ℕ) → after ≡ take (6 * i) out ++ ys ++ drop (6 * i + 6 * k) out → Narrowing bs second before after (spare || s) (i + k)
  narrow-row k there ys is s sees after put = record {
    lies = let next : 6 * i + 6 * k ≡ 6 * (i + k) = omega arith in
        lay-more (narrow second (take (8 * i) bs)) ys before out after (6 * i) (6 * k)
        (omega (arith, length-narrow second (take (8 * i) bs), length_taken bs i k there))
        (omega (arith, ap length is, length-narrow second (take (8 * k) (drop (8 * i) bs)), length-take-le (8 * k) (drop (8 * i) bs) (omega (arith, length-drop (8 * i) bs))))
        n.lies put
        ∙ (λ j. (narrow second (take (8 * i) bs) ++ is j) ++ drop (next j) before) ∙ ap (λ xs. xs ++ drop (6 * (i + k)) before) (sym (more-narrow bs i k there second));
    seen = (λ j. n.seen j || sees j) ∙ sym (more-spare bs i k there);
  }

  pub narrow-length : 8 * i ≤ length bs → 6 * i ≤ length before → length out ≡ length before
  narrow-length there room =
      ap length n.lies
      ∙ omega (arith, length-append (narrow second (take (8 * i) bs)) (drop (6 * i) before), length-narrow second (take (8 * i) bs), length-take-le (8 * i) bs there, length-drop (6 * i) before)

  pub narrow-end : i ≡ min (length bs / 8) (length before / 6) → (len : ℕ) → len ≡ 6 * i
      → Narrowed (take (8 * (length before / 6)) bs) second before (record { len = len; spare = spare }) out
  narrow-end e len l = record {
    count = l ∙ omega (arith, length-narrow second (take (8 * (length before / 6)) bs), length-take (8 * (length before / 6)) bs);
    spare = n.seen ∙ ap has_spare all;
    out = n.lies ∙ (λ j. spread (λ w. bytes6 (packed (rank_of second w))) (all j) ++ drop (sym l j) before);
  }
    where
      all : wides (take (8 * i) bs) ≡ wides (take (8 * (length before / 6)) bs)
      all = ap (λ (m : ℕ). wides (take (8 * m) bs)) e ∙ ap (map (λ xs. wide_at xs 0)) (some-eights bs (length before / 6))

-- nothing stands from a place beyond the end on
pub none_left : (bs : List ℕ) (at : ℕ) (second : Bool) (before : List ℕ) → length bs < at
    → Narrowed (take 8000 (drop at bs)) second before (record { len = 0; spare = false }) before
none_left bs at second before beyond = record { count = rw none; spare = rw none; out = rw none }
  where
    none : wides (take 8000 (drop at bs)) ≡ []
    none = let far : length bs ≤ at = omega arith in ap (λ xs. wides (take 8000 xs)) (drop_of_length-le bs far)

-- from a place on, 1,000 at most
pub from_place : (bs : List ℕ) (at : ℕ) (second : Bool) (before : List ℕ) (r : Part) (after : List ℕ) → length before ≡ 6000
    → Narrowed (take (8 * (length before / 6)) (take (length bs - at) (drop at bs))) second before r after
    → Narrowed (take 8000 (drop at bs)) second before r after
from_place bs at second before r after e n =
    subst (λ xs. Narrowed xs second before r after)
    ((λ i. take (8 * (e i / 6)) (take (length bs - at) (drop at bs))) ∙ ap (take 8000) (take_all (length bs - at) (drop at bs) (omega (arith, length-drop at bs)))) n

-- ── Widening ────────────────────────────────────────────────────────────────────────────────

one-record : (bs : List ℕ) (at : ℕ) → at + 6 ≤ length bs → old.records (take 6 (drop at bs)) ≡ old.record_at bs at ∷ []
one-record bs at h =
    ap (map (λ xs. old.record_at xs 0)) (one_piece 6 (omega arith) (drop at bs) (omega (arith, length-drop at bs)) refl)
    ∙ ap (λ r. r ∷ []) (front (drop at bs) ∙ simp (get_or-drop, add-zero))

-- i records were widened
pub record Widening (bs before out : List ℕ) (i : ℕ) : Type 0 where
  pub lies : out ≡ widen (take (6 * i) bs) ++ drop (8 * i) before

pub widen-start : (bs before : List ℕ) → Widening bs before before 0
widen-start bs before = record { lies = refl }

module _ (bs before out : List ℕ) (i : ℕ) (n : Widening bs before out i) where
  module _ (there : 6 * i + 6 ≤ length bs) where
    length-sixes : length (take (6 * i) bs) ≡ 6 * i
    length-sixes = length-take-le (6 * i) bs (omega arith)

    more-widen : widen (take (6 * (i + 1)) bs) ≡ widen (take (6 * i) bs) ++ bytes8 (packed_wide (widened (old.record_at bs (6 * i))))
    more-widen =
        let e : 6 * (i + 1) ≡ 6 * i + 6 = omega arith in
        ap (λ (m : ℕ). widen (take m bs)) e ∙ ap widen (take-add (6 * i) 6 bs)
        ∙ widen-append (take (6 * i) bs) (take 6 (drop (6 * i) bs)) (omega (arith, length-sixes))
        ∙ ap (λ rs. widen (take (6 * i) bs) ++ spread (λ r. bytes8 (packed_wide (widened r))) rs) (one-record bs (6 * i) there)
        ∙ ap (λ ys. widen (take (6 * i) bs) ++ ys) (append-nil _)

    pub widen-turn : (w m : ℕ) → old.fields_of w ≡ old.record_at bs (6 * i) → m ≡ packed_wide (widened (old.fields_of w))
        → (after : List ℕ) → after ≡ take (8 * i) out ++ bytes8 m ++ drop (8 * i + 8) out → Widening bs before after (i + 1)
    widen-turn w m reads moves after put = record {
      lies =
          lay-more (widen (take (6 * i) bs)) (bytes8 m) before out after (8 * i) 8 (omega (arith, length-widen (take (6 * i) bs), length-sixes)) (eight m) n.lies put
          ∙ ap (λ (x : ℕ). (widen (take (6 * i) bs) ++ bytes8 x) ++ drop (8 * i + 8) before) (moves ∙ ap (λ r. packed_wide (widened r)) reads)
          ∙ (λ j. sym more-widen j ++ drop (next j) before);
    }
      where
        next : 8 * i + 8 ≡ 8 * (i + 1)
        next = omega arith

  pub widen-length : 6 * i ≤ length bs → 8 * i ≤ length before → length out ≡ length before
  widen-length there room =
      ap length n.lies
      ∙ omega (arith, length-append (widen (take (6 * i) bs)) (drop (8 * i) before), length-widen (take (6 * i) bs), length-take-le (6 * i) bs there, length-drop (8 * i) before)

  pub widen-end : i ≡ min (length bs / 6) (length before / 8) → (len : ℕ) → len ≡ 8 * i
      → Widened (take (6 * (length before / 8)) bs) before len out
  widen-end e len l = record {
    count = l ∙ omega (arith, length-widen (take (6 * (length before / 8)) bs), length-take (6 * (length before / 8)) bs);
    out = n.lies ∙ (λ j. spread (λ r. bytes8 (packed_wide (widened r))) (all j) ++ drop (sym l j) before);
  }
    where
      all : old.records (take (6 * i) bs) ≡ old.records (take (6 * (length before / 8)) bs)
      all = ap (λ (m : ℕ). old.records (take (6 * m) bs)) e ∙ ap (map (λ xs. old.record_at xs 0)) (some-sixes bs (length before / 8))
