-- One section, or closing, of a state that a recording's bytes have led to: what it answers, by the rules.
-- Assumes nothing.
use Prim.Native.Nat.{ℕ, ◌+◌, ◌/◌, ◌%◌, ◌≤◌}
use native.Mathlib.Omega.{arith}
use native.Mathlib.Decide.{ℕ_discrete}
use mathlib.Core.Path.{◌≡◌, refl, sym, ap, ◌∙◌}
use mathlib.Core.Bool.{Bool, true, false, cond, ◌||◌}
use mathlib.Core.List.{List, [], ◌++◌}
use lib.Dec.{eqb, ltb}
use lib.ListN.{length}
use borrow.Author.Tests.{eqb-true, ltb-false, eq-eqb, ne_eqb, le-ltb}
use Rattle.header.specs.declared.Header.{Header}
use Rattle.records.specs.Record.{records, has_zero}
use Rattle.records.proofs.Records.{length-records}
use Rattle.wide.specs.Editions.{size, view, spare_in, refusal}
use Rattle.wide.proofs.Editions.{view-both, view-sixes, view-count, second-zero}
use Rattle.chip.specs.declared.Chip.{Chip}
use Rattle.chip.specs.Chip.{chip_of}
use Rattle.edges.specs.declared.Rank.{Rank}
use Rattle.edges.specs.Step.{fold_of, so_far}
use Rattle.edges.specs.Ends.{end_of}
use Rattle.judge.specs.declared.State.{State}
use Rattle.judge.specs.Answers.{SectionAnswer as Answer}
use Rattle.judge.specs.Ranges.{in_range}
use Rattle.judge.specs.Calls.{holding, refuse, take, folded, taken_by, section_of, of_second, closed, not_closed, close_of}
use Rattle.judge.proofs.Ranging.{tested, section-by}
use Rattle.running.specs.Ranges.{limit, last_edge}
use Rattle.running.specs.Said.{no_verdict}
use Rattle.running.specs.Ends.{no_end}
use Rattle.rules.specs.Past.{edge, recording}
use Rattle.rules.specs.Verdict.{verdict_so_far, Apart, answer}
use Rattle.rules.proofs.Facts.{Sound}
use Rattle.rules.proofs.Cutting.{steps, number-all, recording-append}
use Rattle.carries.proofs.Whole.{frozen, carried_by, carried}
use Rattle.carries.proofs.Carrying.{fold-carried, so-far-carried}
use Rattle.carries.proofs.Closing.{end-carried}
use Rattle.carries.proofs.Waiting.{waited-carried}
use Rattle.sections.specs.Sections.{Fits, refused, Stood}

-- ── A section's refusal ─────────────────────────────────────────────────────────────────────

module _ (e n : ℕ) (bs : List ℕ) where
  pub fits : refusal e n bs ≡ 0 → Fits e n bs
  unfolding refusal
  fits h =
      go (eqb (length bs % size e) 0) refl (ltb limit (n + length bs / size e)) refl (has_zero (records (view e false bs))) refl (spare_in e bs) refl h
    where
      go :
          (x : Bool) → eqb (length bs % size e) 0 ≡ x → (y : Bool) → ltb limit (n + length bs / size e) ≡ y → (z : Bool)
          → has_zero (records (view e false bs)) ≡ z → (w : Bool) → spare_in e bs ≡ w
          → ◌≡◌ {A = ℕ} (cond x (cond y 7 (cond z 6 (cond w 14 0))) 5) 0 → Fits e n bs
      go true p false q false r false t f = record { even = eqb-true _ _ p; room = ltb-false _ _ q; steps = r; zeros = t }
      go true p false q false r true t f = absurd (omega arith)
      go true p false q true r w t f = absurd (omega arith)
      go true p true q z r w t f = absurd (omega arith)
      go false p y q z r w t f = absurd (omega arith)

  pub fits-taken : Fits e n bs → refusal e n bs ≡ 0
  unfolding refusal
  fits-taken f = rw (eq-eqb (length bs % size e) 0 f.even, le-ltb limit (n + length bs / size e) f.room, f.steps, f.zeros)

-- ── A rank that has seen the bytes bs ───────────────────────────────────────────────────────

module _ (C : Chip) (S : Sound C) (bs : List ℕ) (apart : Apart (recording bs)) (n : Rank) (is : n ≡ carried C (recording bs)) where
  pub rank-edge : n.edge ≡ edge (recording bs)
  unfolding carried_by frozen
  rank-edge = ap (λ (x : Rank). x.edge) is

  pub stood : Stood C bs n
  unfolding carried_by frozen
  stood = record {
    counted = ap (λ (x : Rank). x.count) is ∙ number-all (records bs) [] ∙ omega (arith, length-records bs);
    last = rank-edge;
    so-far = ap so_far is ∙ so-far-carried C (recording bs);
    waits = rw is (waited-carried C S (recording bs) apart);
  }

  pub rank-ends : (end : ℕ) → edge (recording bs) ≤ end → end_of C n end ≡ answer C (recording bs) end
  rank-ends end l = ap (λ x. end_of C x end) is ∙ end-carried C S (recording bs) end apart l

  -- and then those of xs
  pub rank-folds : (xs : List ℕ) → length bs % 6 ≡ 0 → has_zero (records xs) ≡ false → fold_of C n (records xs) ≡ carried C (recording (bs ++ xs))
  rank-folds xs sixes none =
      ap (λ x. fold_of C x (records xs)) is ∙ fold-carried C S (records xs) (recording bs) (steps (records xs) none) apart
      ∙ ap (carried C) (recording-append bs xs sixes)

-- ── What stands after the bytes bs ──────────────────────────────────────────────────────────

-- the state that the rules tell
abbrev pub state_of : Header → (e : ℕ) → List ℕ → State
state_of h e bs = holding h e (carried (chip_of h) (recording (view e false bs))) (carried (chip_of h) (recording (view e true bs)))

-- the state after the records of the bytes bs, no step of which is 0
pub record Stands (h : Header) (e : ℕ) (bs : List ℕ) (s : State) : Type 0 where
  pub even : length bs % size e ≡ 0
  pub apart : (second : Bool) → Apart (recording (view e second bs))
  pub state : s ≡ state_of h e bs
  pub range : in_range s ≡ true

module _ (h : Header) (S : Sound (chip_of h)) (e : ℕ) (bs : List ℕ) (s : State) (a : Stands h e bs s) where
  one-is : s.one ≡ carried (chip_of h) (recording (view e false bs))
  one-is = ap (λ (x : State). x.one) a.state

  two_is : s.two ≡ carried (chip_of h) (recording (view e true bs))
  two_is = ap (λ (x : State). x.two) a.state

  edition-is : s.edition ≡ e
  edition-is = ap (λ (x : State). x.edition) a.state

  header_is : s.header ≡ h
  header_is = ap (λ (x : State). x.header) a.state

  pub first-stood : Stood (chip_of h) (view e false bs) s.one
  first-stood = stood (chip_of h) S (view e false bs) (a.apart false) s.one one-is

  pub second-stood : Stood (chip_of h) (view e true bs) s.two
  second-stood = stood (chip_of h) S (view e true bs) (a.apart true) s.two two_is

  pub count-is : s.one.count ≡ length bs / size e
  count-is = first-stood.counted ∙ view-count e bs

  -- closing is refused where the end edge is out of bounds; else it answers what the rules say
  pub close-is : (end : ℕ) →
      close_of s end
      ≡ cond (ltb end (edge (recording (view e false bs))) || ltb last_edge end) (not_closed 8)
      (closed (answer (chip_of h) (recording (view e false bs)) end) (of_second e (answer (chip_of h) (recording (view e true bs)) end) no_end))
  unfolding close_of
  close-is end =
      rw a.range
      ((λ i. cond (ltb end (first-stood.last i) || ltb last_edge end) (not_closed 8)
      (closed (end_of (chip_of (header_is i)) s.one end) (of_second (edition-is i) (end_of (chip_of (header_is i)) s.two end) no_end)))
      ∙ go (ltb end (edge (recording (view e false bs)))) refl (ltb last_edge end))
    where
      second : edge (recording (view e false bs)) ≤ end
          → of_second e (end_of (chip_of h) s.two end) no_end ≡ of_second e (answer (chip_of h) (recording (view e true bs)) end) no_end
      second l = by (eqb e 2) refl
        where
          by : (x : Bool) → eqb e 2 ≡ x → cond x (end_of (chip_of h) s.two end) no_end ≡ cond x (answer (chip_of h) (recording (view e true bs)) end) no_end
          by true p =
              let same = ((tested s a.range).second (edition-is ∙ eqb-true _ _ p)).edge in
              rank-ends (chip_of h) S (view e true bs) (a.apart true) s.two two_is end (omega (arith, l, same, first-stood.last, second-stood.last))
          by false p = refl

      go :
          (x : Bool) → ltb end (edge (recording (view e false bs))) ≡ x → (y : Bool)
          → cond (x || y) (not_closed 8) (closed (end_of (chip_of h) s.one end) (of_second e (end_of (chip_of h) s.two end) no_end))
          ≡ cond (x || y) (not_closed 8)
          (closed (answer (chip_of h) (recording (view e false bs)) end) (of_second e (answer (chip_of h) (recording (view e true bs)) end) no_end))
      go true p y = refl
      go false p true = refl
      go false p false =
          let l = ltb-false _ _ p in
          λ i. closed (rank-ends (chip_of h) S (view e false bs) (a.apart false) s.one one-is end l i) (second l i)

  -- one section more, of the bytes xs
  module _ (xs : List ℕ) where
    abbrev n : ℕ
    n = refusal e (length bs / size e) xs

    by_count : section_of s xs ≡ taken_by n s xs
    by_count = sym (section-by s a.range xs n (λ i. refusal (sym edition-is i) (sym count-is i) xs))

    sees : (second : Bool) → recording (view e second bs ++ view e second xs) ≡ recording (view e second (bs ++ xs))
    sees second = ap recording (sym (view-both e second bs xs a.even))

    folds : Fits e (length bs / size e) xs → folded s xs ≡ state_of h e (bs ++ xs)
    folds f =
        (λ i. holding (header_is i) (edition-is i)
        (fold_of (chip_of (header_is i)) s.one (records (view (edition-is i) false xs)))
        (fold_of (chip_of (header_is i)) s.two (records (view (edition-is i) true xs))))
        ∙ (λ i. holding h e
        (rank-folds (chip_of h) S (view e false bs) (a.apart false) s.one one-is (view e false xs) (view-sixes e false bs a.even) f.steps i)
        (rank-folds (chip_of h) S (view e true bs) (a.apart true) s.two two_is (view e true xs) (view-sixes e true bs a.even) (second-zero e xs f.steps) i))
        ∙ (λ i. holding h e (carried (chip_of h) (sees false i)) (carried (chip_of h) (sees true i)))

    pub section-fits : Fits e (length bs / size e) xs → section_of s xs ≡ take (state_of h e (bs ++ xs))
    section-fits f = by_count ∙ ap (λ m. taken_by m s xs) (fits-taken e (length bs / size e) xs f) ∙ ap take (folds f)

    pub section-refused : (n ≡ 0 → ⊥) → section_of s xs ≡ refuse n s
    section-refused f = by_count ∙ ap (λ x. cond x (take (folded s xs)) (refuse n s)) (ne_eqb n 0 f)

    pub refused-by : refused s xs ≡ n
    refused-by = elim (ℕ_discrete n 0) [
      | yes q ↦ ap (λ (r : Answer). r.refused) (section-fits (fits e (length bs / size e) xs q)) ∙ sym q
      | no q ↦ ap (λ (r : Answer). r.refused) (section-refused q)
    ]

    -- the verdicts so far, where it is taken
    pub verdict-is : n ≡ 0 → (section_of s xs).verdict ≡ verdict_so_far (chip_of h) (recording (view e false (bs ++ xs)))
    verdict-is q =
        ap (λ (r : Answer). r.verdict) (section-fits (fits e (length bs / size e) xs q)) ∙ so-far-carried (chip_of h) (recording (view e false (bs ++ xs)))

    pub second_is : n ≡ 0 → (section_of s xs).second ≡ of_second e (verdict_so_far (chip_of h) (recording (view e true (bs ++ xs)))) no_verdict
    second_is q =
        ap (λ (r : Answer). r.second) (section-fits (fits e (length bs / size e) xs q))
        ∙ ap (λ v. of_second e v no_verdict) (so-far-carried (chip_of h) (recording (view e true (bs ++ xs))))
