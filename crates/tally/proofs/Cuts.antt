-- What a tally says of a recording: however it is cut into sections, and whichever of them are refused, each count is the number of
-- records of that kind that the taken sections make together, and the counts sum to the number of records.
-- Assumes nothing.
use Rattle.std.proofs.Common.{Result, Ok, Err, ◌≡◌, ℕ, ◌+◌, ◌/◌, ◌%◌, ◌<◌, ◌≤◌, Bool, true, false, cond, eqb, List, [], ◌∷◌, ◌++◌, length, get_or, sym, refl, ap, ◌∙◌, arith, length-append, eq-eqb, eqb-true}
use mathlib.Core.List.{reverse_aux}
use Rattle.records.specs.declared.Record.{Record}
use Rattle.records.specs.Command.{a10}
use Rattle.records.specs.Record.{records}
use Rattle.rules.specs.Past.{Past, number, cke, asleep, command, recording}
use Rattle.rules.proofs.Cutting.{number-all, recording-append}
use Rattle.records.proofs.Records.{length-records}
use Rattle.tally.specs.declared.Tally.{Tally}
use Rattle.refusals.specs.declared.Refusal.{Refusal}
use Rattle.refusals.specs.declared.Refusal.TheVariants.{CutShort, State}
use Rattle.tally.specs.Kinds.{kind_of, kind_at}
use Rattle.tally.specs.Tally.{start, step_of, fold_of, largest, in_range, section_of, refused_of, behind}
use Rattle.tally.specs.Counts.{count_of, nineteen, tally_of, total}
use Rattle.tally.proofs.Ranging.{in-range}
use Rattle.tally.proofs.Nineteen.{kind-below, raised_at_lem, at-nineteen, total-raised, below_total}
use Rattle.laws.specs.Cuts as cuts
use Rattle.laws.specs.Cuts.{uncut, Each, Offer, parts, offered, whole}
use Rattle.laws.proofs.Cuts as machine

-- ── Records ─────────────────────────────────────────────────────────────────────────────────

-- a record more
step_is : (p : Past) (r : Record) → step_of (tally_of p) r ≡ tally_of (r ∷ p)
unfolding step_of kind_at asleep
step_is p r =
    ap (λ (ns : List ℕ). record { level = r.cke; sleeps = asleep (r ∷ p); counts = ns })
    (raised_at_lem (kind_of (command (r ∷ p)) (a10 r)) (kind-below (command (r ∷ p)) (a10 r)) (λ k. count_of k p))

pub fold_is : (rs : List Record) (p : Past) → fold_of (tally_of p) rs ≡ tally_of (reverse_aux rs p)
fold_is [] p = refl
fold_is (r ∷ rs) p = rw (step_is p r) (fold_is rs (r ∷ p))

pub start_is : start ≡ tally_of []
unfolding nineteen asleep
start_is = refl

-- the nineteen counts sum to the number of records
pub sum_is : (p : Past) → total (tally_of p).counts ≡ number p
unfolding nineteen
sum_is [] = refl
sum_is (r ∷ p) =
    let k = kind_of (command (r ∷ p)) (a10 r) in
    let below = kind-below (command (r ∷ p)) (a10 r) in
    ap total (sym (raised_at_lem k below (λ j. count_of j p))) ∙ total-raised (nineteen (λ j. count_of j p)) k below ∙ ap (λ (n : ℕ). n + 1) (sum_is p)

-- no count is larger than the number of records
pub count_most : (p : Past) (k : ℕ) → get_or (tally_of p).counts k 0 ≤ number p
count_most p k = omega (arith, below_total (tally_of p).counts k, sum_is p)

-- ── A section ───────────────────────────────────────────────────────────────────────────────

module _ (t : Tally) (xs : List ℕ) where
  abbrev answer_by : (ranged sixes : Bool) → Result Tally Refusal
  answer_by x y = cond x (cond y (Ok (fold_of t (records xs))) (Err CutShort)) (Err State)

  section-by : section_of t xs ≡ answer_by (in_range t.counts) (eqb (length xs % 6) 0)
  unfolding section_of
  section-by = refl

  pub section-taken : refused_of (section_of t xs) ≡ 0 → (length xs % 6 ≡ 0) × (behind t (section_of t xs) ≡ fold_of t (records xs))
  unfolding section_of
  section-taken h = go (in_range t.counts) (eqb (length xs % 6) 0) refl h
    where
      go : (x y : Bool) → eqb (length xs % 6) 0 ≡ y → refused_of (answer_by x y) ≡ 0
          → (length xs % 6 ≡ 0) × (behind t (answer_by x y) ≡ fold_of t (records xs))
      go true true e z = (eqb-true _ _ e, refl)
      go true false e z = absurd (omega arith)
      go false y e z = absurd (omega arith)

  pub section-refused : (refused_of (section_of t xs) ≡ 0 → ⊥) → behind t (section_of t xs) ≡ t
  unfolding section_of
  section-refused h = go (in_range t.counts) (eqb (length xs % 6) 0) h
    where
      go : (x y : Bool) → (refused_of (answer_by x y) ≡ 0 → ⊥) → behind t (answer_by x y) ≡ t
      go true true z = absurd (z refl)
      go true false z = refl
      go false y z = refl

-- ── Sections in turn ────────────────────────────────────────────────────────────────────────

abbrev section_is : Tally → List ℕ → Tally
section_is t xs = behind t (section_of t xs)

abbrev refused_is : Tally → List ℕ → ℕ
refused_is t xs = refused_of (section_of t xs)

-- the tally after the sections, offered in turn, and the bytes of those that are taken
abbrev pub run : Tally → List (List ℕ) → Tally
run = cuts.run section_is

abbrev pub taken : Tally → List (List ℕ) → List ℕ
taken = cuts.taken section_is refused_is

-- the tally of the records of the bytes bs
pub record Stands (bs : List ℕ) (t : Tally) : Type 0 where
  pub sixes : length bs % 6 ≡ 0
  pub whole : t ≡ tally_of (recording bs)

pub start-stands : Stands [] start
start-stands = record { sixes = refl; whole = start_is }

takes : (bs : List ℕ) (t : Tally) → Stands bs t → (xs : List ℕ) → refused_is t xs ≡ 0 → Stands (bs ++ xs) (section_is t xs)
takes bs t s xs z =
    let w = section-taken t xs z in
    record {
      sixes = omega (arith, length-append bs xs, s.sixes, w.0);
      whole =
          w.1 ∙ ap (λ (u : Tally). fold_of u (records xs)) s.whole ∙ fold_is (records xs) (recording bs)
          ∙ ap tally_of (recording-append bs xs s.sixes);
    }

leaves : (bs : List ℕ) (t : Tally) → Stands bs t → (xs : List ℕ) → (refused_is t xs ≡ 0 → ⊥) → section_is t xs ≡ t
leaves bs t s xs n = section-refused t xs n

stands-run : (xss : List (List ℕ)) (bs : List ℕ) (t : Tally) → Stands bs t → Stands (bs ++ taken t xss) (run t xss)
stands-run = machine.stands-run section_is refused_is Stands takes leaves

-- ── What a tally tells ──────────────────────────────────────────────────────────────────────

-- of the recording of the bytes bs
pub record Tells (bs : List ℕ) (t : Tally) : Type 0 where
  pub level : t.level ≡ cke (recording bs)
  pub sleeps : t.sleeps ≡ asleep (recording bs)
  pub each : (k : ℕ) → k < 19 → get_or t.counts k 0 ≡ count_of k (recording bs)
  pub sum : total t.counts ≡ number (recording bs)
  pub number_is : number (recording bs) ≡ length bs / 6
  -- 17 is not given up to so many records
  pub refused : length bs / 6 ≤ largest → (xs : List ℕ) → refused_of (section_of t xs) ≡ cond (eqb (length xs % 6) 0) 0 5

tells : (bs : List ℕ) (t : Tally) → Stands bs t → Tells bs t
tells bs t s = record {
  level = ap (λ (u : Tally). u.level) s.whole;
  sleeps = ap (λ (u : Tally). u.sleeps) s.whole;
  each = λ k h. ap (λ (u : Tally). get_or u.counts k 0) s.whole ∙ at-nineteen (λ j. count_of j (recording bs)) k h;
  sum = ap (λ (u : Tally). total u.counts) s.whole ∙ sum_is (recording bs);
  number_is = count;
  refused = λ most xs. ap refused_of (section-by t xs) ∙ go xs (eqb (length xs % 6) 0) (ranged most);
}
  where
    count : number (recording bs) ≡ length bs / 6
    count = omega (arith, number-all (records bs) [], length-records bs)

    ranged : length bs / 6 ≤ largest → in_range t.counts ≡ true
    ranged most = rw s.whole (in-range (tally_of (recording bs)).counts (λ k. omega (arith, count_most (recording bs) k, count)))

    go : (xs : List ℕ) (y : Bool) → in_range t.counts ≡ true → refused_of (answer_by t xs (in_range t.counts) y) ≡ cond y 0 5
    go xs true h = rw h
    go xs false h = rw h

-- however the sections are cut, and whichever are refused
pub sections-tallied : (xss : List (List ℕ)) → Tells (taken start xss) (run start xss)
sections-tallied xss = tells (taken start xss) (run start xss) (stands-run xss [] start start-stands)

-- ── A recording that is cut ─────────────────────────────────────────────────────────────────

-- each section ends between records
abbrev pub Six : List ℕ → Type 0
Six xs = length xs % 6 ≡ 0

abbrev pub Sixes : List (List ℕ) → Type 0
Sixes = Each Six

pub uncut-sixes : (xss : List (List ℕ)) → Sixes xss → length (uncut xss) % 6 ≡ 0
uncut-sixes [] h = refl
uncut-sixes (xs ∷ xss) h = omega (arith, length-append xs (uncut xss), h.0, uncut-sixes xss h.1)

-- a section that is taken after bs, as long as 17 is not given
pub record Fits (bs xs : List ℕ) : Type 0 where
  pub sixes : length xs % 6 ≡ 0
  pub room : (length bs + length xs) / 6 ≤ largest

fits : (bs : List ℕ) (t : Tally) → Stands bs t → (xs : List ℕ) → Fits bs xs → refused_is t xs ≡ 0
fits bs t s xs f = (tells bs t s).refused (omega (arith, f.room)) xs ∙ rw (eq-eqb (length xs % 6) 0 f.sixes)

cut : (bs : List ℕ) (t : Tally) → Stands bs t → (xs ys : List ℕ) → Six xs → Fits bs (xs ++ ys) → Fits bs xs × Fits (bs ++ xs) ys
cut bs t s xs ys six f =
    let long = length-append xs ys in (
      record { sixes = six; room = omega (arith, f.room) },
      record { sixes = omega (arith, f.sixes); room = omega (arith, f.room, length-append bs xs) },
    )

-- whatever refused sections are offered in between
pub every-cut :
    (os : List Offer) → Sixes (parts os) → length (whole os) / 6 ≤ largest → cuts.Spare section_is refused_is start os
    → cuts.Goes section_is refused_is start os × (taken start (offered os) ≡ whole os)
every-cut os even most spare =
    machine.every-cut section_is refused_is Stands takes leaves Fits Six fits cut os [] start start-stands even
    (record { sixes = uncut-sixes (parts os) even; room = omega (arith, most) }) spare

pub cut-same :
    (os : List Offer) → Sixes (parts os) → length (whole os) / 6 ≤ largest → cuts.Spare section_is refused_is start os
    → run start (offered os) ≡ behind start (section_of start (whole os))
cut-same os even most spare =
    machine.cut-same section_is refused_is Stands takes leaves Fits Six fits cut (λ bs s t a b. a.whole ∙ sym b.whole) os start start-stands even
    (record { sixes = uncut-sixes (parts os) even; room = omega (arith, most) }) spare

-- sections that all fit are all taken
pub all-taken :
    (xss : List (List ℕ)) (bs : List ℕ) (t : Tally) → Stands bs t → Sixes xss → (length bs + length (uncut xss)) / 6 ≤ largest
    → taken t xss ≡ uncut xss
all-taken [] bs t s h m = refl
all-taken (xs ∷ xss) bs t s h m =
    let longer = length-append xs (uncut xss) in
    let z : refused_is t xs ≡ 0 = fits bs t s xs (record { sixes = h.0; room = omega arith }) in
    rw (eq-eqb _ _ z)
    (ap (λ ys. xs ++ ys) (all-taken xss (bs ++ xs) (section_is t xs) (takes bs t s xs z) h.1 (omega (arith, length-append bs xs))))
