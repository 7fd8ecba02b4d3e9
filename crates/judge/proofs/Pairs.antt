-- The loop over a section of edition 2: what is left of it leads where the whole section leads, and a part of it leads on.
-- Assumes nothing.
use Prim.Native.Nat.{ℕ, ◌+◌, ◌-◌, ◌/◌, ◌%◌, ◌≤◌}
use native.Mathlib.Omega.{arith}
use mathlib.Core.Bool.{Bool, true, false, cond, ◌||◌, or_assoc, or-false, true≢false}
use mathlib.Core.List.{List, [], ◌++◌}
use mathlib.Core.Path.{◌≡◌, refl, sym, ap, ◌∙◌}
use lib.ListN.{length, take, drop, length-append, length-take, length-drop, take-append-drop, drop_of_length-le}
use lib.Seq.{drop-drop, take_at}
use Rattle.records.specs.Record.{records, has_zero}
use Rattle.records.proofs.Records.{records-append}
use Rattle.wide.specs.Wide.{wides, has_spare}
use Rattle.wide.specs.Moved.{narrow}
use Rattle.wide.specs.declared.Part.{Part}
use Rattle.wide.specs.Promises.{Narrowed}
use Rattle.wide.proofs.Wides.{wides-append, rank-zero, spare_of}
use Rattle.wide.proofs.Moving.{records-narrow, narrow-append, length-narrow}
use Rattle.chip.specs.declared.Chip.{Chip}
use Rattle.running.specs.Ranges.{limit, Small}
use Rattle.edges.specs.declared.Rank.{Rank}
use Rattle.std.specs.Prelude.{Option, None, Some}
use Rattle.std.proofs.Common.{unwrap_or}
use Rattle.edges.specs.Folded.{Folded, folded_as}
use Rattle.edges.specs.Step.{fold_of}
use Rattle.edges.specs.Ends.{taken_of}
use Rattle.edges.proofs.Ranging.{taken-folds}
use Rattle.judge.specs.Pairs.{Pair}
use Rattle.judge.specs.Pairs.{pair_of, Took, Fit, Able, Ready}
use Rattle.judge.proofs.Folds.{fold-append, zero_of, fold-kept}

-- the rank that is handed back, or as it was
pub rank-is : (s : Rank) (r : Option Rank) → (folded_as s r).rank ≡ unwrap_or r s
rank-is s None = refl
rank-is s (Some n) = refl

-- ── Bytes as a rank sees them, in two parts ─────────────────────────────────────────────────

module _ (second : Bool) (xs ys : List ℕ) (eights : length xs % 8 ≡ 0) where
  records-both : records (narrow second (xs ++ ys)) ≡ records (narrow second xs) ++ records (narrow second ys)
  records-both =
      ap records (narrow-append second xs ys eights)
      ∙ records-append (narrow second xs) (narrow second ys) (omega (arith, length-narrow second xs))

  pub fold-both : (C : Chip) (n : Rank)
      → fold_of C n (records (narrow second (xs ++ ys))) ≡ fold_of C (fold_of C n (records (narrow second xs))) (records (narrow second ys))
  fold-both C n = ap (fold_of C n) records-both ∙ fold-append C n (records (narrow second xs)) (records (narrow second ys))

  pub zero-both : has_zero (records (narrow second (xs ++ ys))) ≡ has_zero (records (narrow second xs)) || has_zero (records (narrow second ys))
  zero-both = ap has_zero records-both ∙ zero_of (records (narrow second xs)) (records (narrow second ys))

-- both ranks have the same steps
pub same-zero : (bs : List ℕ) → has_zero (records (narrow true bs)) ≡ has_zero (records (narrow false bs))
same-zero bs = ap has_zero (records-narrow true bs) ∙ rank-zero true (wides bs) ∙ ap has_zero (sym (records-narrow false bs))

-- ── A rank and a part ───────────────────────────────────────────────────────────────────────

module _ (C : Chip) (small : Small C) (second : Bool) (n : Rank) (xs : List ℕ) (f : Fit n xs) where
  abbrev either : Bool → Folded
  either z = cond z (record { zero = true; rank = n }) (record { zero = false; rank = fold_of C n (records (narrow second xs)) })

  takes : taken_of C n (narrow second xs) ≡ either (has_zero (records (narrow second xs)))
  takes =
      let long = length-narrow second xs in
      taken-folds C small n f.range (narrow second xs) (omega arith) (omega (arith, f.room))

  pub part-zero : (taken_of C n (narrow second xs)).zero ≡ has_zero (records (narrow second xs))
  part-zero = ap (λ (m : Folded). m.zero) takes ∙ go (has_zero (records (narrow second xs)))
    where
      go : (z : Bool) → (either z).zero ≡ z
      go true = refl
      go false = refl

  pub part-rank : has_zero (records (narrow second xs)) ≡ false → (taken_of C n (narrow second xs)).rank ≡ fold_of C n (records (narrow second xs))
  part-rank z = ap (λ (m : Folded). m.rank) takes ∙ ap (λ (b : Bool). (either b).rank) z

  -- and then the bytes ys fit
  pub part-fits : (ys : List ℕ) → n.count + (length xs / 8 + length ys / 8) ≤ limit → Fit (fold_of C n (records (narrow second xs))) ys
  part-fits ys room =
      let long = length-narrow second xs in
      let w = fold-kept C small n f.range (narrow second xs) (omega (arith, f.room)) in
      record { range = w.0; room = omega (arith, w.1) }

-- what lies in front of the lent bytes is what each rank sees
pub front : {second : Bool} {xs before after : List ℕ} {part : Part} → Narrowed xs second before part after → take part.len after ≡ narrow second xs
front {second} {xs} {before} {after} {part} w =
    ap (take part.len) w.out ∙ take_at (narrow second xs) (drop part.len before) part.len (sym w.count)

module _ {second : Bool} {xs before after : List ℕ} {part : Part} (w : Narrowed xs second before part after) (most : length xs ≤ 8000) where
  -- 1,000 records at most
  pub few : part.len ≤ 6000
  few = omega (arith, w.count, length-narrow second xs)

  pub kept-long : length before ≡ 6000 → length after ≡ 6000
  kept-long long =
      ap length w.out
      ∙ omega (arith, length-append (narrow second xs) (drop part.len before), length-drop part.len before, w.count, few)

pub at_most : (ys : List ℕ) → length (take 8000 ys) ≤ 8000
at_most ys = omega (arith, length-take 8000 ys)

-- ── The loop over a rank's parts ────────────────────────────────────────────────────────────

module _ (C : Chip) (second : Bool) (start : Rank) (bytes : List ℕ) where
  -- n, before the records from a place on: what is left leads where the whole section leads
  pub record Stage (n : Rank) (spare : Bool) (at : ℕ) : Type 0 where
    pub able : Able C n (drop at bytes)
    pub zero : has_zero (records (narrow second (drop at bytes))) ≡ has_zero (records (narrow second bytes))
    pub seen : spare || has_spare (wides (drop at bytes)) ≡ has_spare (wides bytes)
    pub after : fold_of C n (records (narrow second (drop at bytes))) ≡ fold_of C start (records (narrow second bytes))

  pub stage-start : Able C start bytes → Stage start false 0
  stage-start a = record { able = a; zero = refl; seen = refl; after = refl }

  -- where it ends
  pub record Ended (n : Rank) (spare : Bool) : Type 0 where
    pub zero : has_zero (records (narrow second bytes)) ≡ false
    pub seen : spare ≡ has_spare (wides bytes)
    pub after : n ≡ fold_of C start (records (narrow second bytes))

  pub stage-end : (n : Rank) (spare : Bool) (at : ℕ) → Stage n spare at → length bytes ≤ at → Ended n spare
  stage-end n spare at s far =
      let none : drop at bytes ≡ [] = drop_of_length-le bytes far in
      record {
        zero = sym s.zero ∙ ap (λ bs. has_zero (records (narrow second bs))) none;
        seen = sym (or-false spare) ∙ ap (λ bs. spare || has_spare (wides bs)) (sym none) ∙ s.seen;
        after = ap (λ bs. fold_of C n (records (narrow second bs))) (sym none) ∙ s.after;
      }

  module _ (n : Rank) (spare : Bool) (at : ℕ) (s : Stage n spare at) where
    abbrev xs : List ℕ
    xs = take 8000 (drop at bytes)

    abbrev ys : List ℕ
    ys = drop (at + 8000) bytes

    cut : drop at bytes ≡ xs ++ ys
    cut = sym (take-append-drop 8000 (drop at bytes)) ∙ ap (λ zs. xs ++ zs) (drop-drop 8000 at bytes)

    eights : length xs % 8 ≡ 0
    eights = omega (arith, length-take 8000 (drop at bytes), s.able.eights)

    rest : length ys ≡ length (drop at bytes) - length xs
    rest = omega (arith, length-drop (at + 8000) bytes, length-drop at bytes, length-take 8000 (drop at bytes))

    within : length xs ≤ length (drop at bytes)
    within = omega (arith, length-take 8000 (drop at bytes))

    counts : length xs / 8 + length ys / 8 ≡ length (drop at bytes) / 8
    counts = omega (arith, rest, within, eights)

    fit : Fit n xs
    fit = record { range = s.able.fit.range; room = omega (arith, s.able.fit.room, within) }

    more : has_zero (records (narrow second bytes)) ≡ has_zero (records (narrow second xs)) || has_zero (records (narrow second ys))
    more = sym s.zero ∙ ap (λ bs. has_zero (records (narrow second bs))) cut ∙ zero-both second xs ys eights

    -- the rank after the part
    module _ (a : Folded) (e : a ≡ taken_of C n (narrow second xs)) where
      pub part-met : a.zero ≡ has_zero (records (narrow second xs))
      part-met = ap (λ (m : Folded). m.zero) e ∙ part-zero C s.able.small second n xs fit

      pub stage-zero : a.zero ≡ true → has_zero (records (narrow second bytes)) ≡ true
      stage-zero z = more ∙ ap (λ b. b || has_zero (records (narrow second ys))) (sym part-met ∙ z)

      module _ (none : has_zero (records (narrow second xs)) ≡ false) where
        is : a.rank ≡ fold_of C n (records (narrow second xs))
        is = ap (λ (m : Folded). m.rank) e ∙ part-rank C s.able.small second n xs fit none

        able-on : Able C (fold_of C n (records (narrow second xs))) ys
        able-on = record {
          small = s.able.small;
          eights = omega (arith, rest, within, eights, s.able.eights);
          fit = part-fits C s.able.small second n xs fit ys (omega (arith, counts, s.able.fit.room));
        }

        spares : (b : Bool) → b ≡ has_spare (wides xs) → (spare || b) || has_spare (wides ys) ≡ has_spare (wides bytes)
        spares b is =
            or_assoc spare b (has_spare (wides ys))
            ∙ ap (λ c. spare || c) (ap (λ c. c || has_spare (wides ys)) is ∙ sym (ap has_spare (wides-append xs ys eights) ∙ spare_of (wides xs) (wides ys)))
            ∙ ap (λ bs. spare || has_spare (wides bs)) (sym cut) ∙ s.seen

        pub stage-turn : (b : Bool) → b ≡ has_spare (wides xs) → Stage a.rank (spare || b) (at + 8000)
        stage-turn b sees = rw is (record {
          able = able-on;
          zero = sym (more ∙ ap (λ c. c || has_zero (records (narrow second ys))) none);
          seen = spares b sees;
          after = sym (fold-both second xs ys eights C n) ∙ ap (λ bs. fold_of C n (records (narrow second bs))) (sym cut) ∙ s.after;
        })

-- ── Both ranks ──────────────────────────────────────────────────────────────────────────────

pub first-able : {C : Chip} {p : Pair} {bs : List ℕ} → Ready C p bs → Able C p.one bs
first-able r = record { small = r.small; eights = r.eights; fit = r.first }

pub second-able : {C : Chip} {p : Pair} {bs : List ℕ} → Ready C p bs → Able C p.two bs
second-able r = record { small = r.small; eights = r.eights; fit = r.second }

module _ {C : Chip} {p : Pair} {bs : List ℕ} {r : Pair} where
  pub took-zero : r.zero ≡ true → has_zero (records (narrow false bs)) ≡ true → Took C p bs r
  took-zero z met = record { zero = z ∙ sym met; after = λ no. absurd (true≢false (sym z ∙ no)) }

  pub took-all : {spare : Bool} {one two : Rank} → r ≡ pair_of false (p.spare || spare) one two
      → has_zero (records (narrow false bs)) ≡ false → spare ≡ has_spare (wides bs)
      → one ≡ fold_of C p.one (records (narrow false bs)) → two ≡ fold_of C p.two (records (narrow true bs)) → Took C p bs r
  took-all is none seen one two = record {
    zero = ap (λ (q : Pair). q.zero) is ∙ sym none;
    after = λ _. is ∙ (λ i. record { zero = false; spare = p.spare || seen i; one = one i; two = two i });
  }
