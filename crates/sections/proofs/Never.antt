-- 17 is never given for a state that opening or a section returned: such a state is in range.
-- Assumes nothing.
use Prim.Native.Nat.{ℕ, ◌+◌, ◌/◌, ◌%◌, ◌≤◌}
use native.Mathlib.Decide.{ℕ_discrete}
use native.Mathlib.Omega.{arith}
use mathlib.Core.Path.{◌≡◌, refl, sym, ap, ◌∙◌}
use mathlib.Core.Bool.{Bool, true, false, cond}
use mathlib.Core.List.{List, map}
use mathlib.Core.Logic.{◌⊎◌, ⊎_elim}
use lib.Dec.{eqb, ltb}
use lib.ListN.{length, get_or-replicate}
use borrow.Author.Tests.{ltb-false, le-leb, eq-eqb}
use Rattle.units.proofs.Rounding.{down-zero}
use Rattle.header.specs.declared.Header.{Header}
use Rattle.std.specs.Prelude.{Ok, Err}
use Rattle.header.specs.Bytes.{Parsed, edition_for, parsed_of}
use Rattle.header.specs.Counts.{t_refi}
use Rattle.header.proofs.Bounds.{bounds}
use Rattle.records.specs.Record.{records, has_zero}
use Rattle.wide.specs.Wide.{wides, rank_of}
use Rattle.wide.specs.Editions.{size, view, spare_in, refusal}
use Rattle.wide.proofs.Moving.{records-narrow}
use Rattle.wide.proofs.Editions.{view-count, second-most, view-two}
use Rattle.chip.specs.Chip.{chip_of}
use Rattle.running.specs.Ranges.{limit}
use Rattle.running.proofs.Ranging.{small}
use Rattle.edges.specs.declared.Rank.{Rank}
use Rattle.edges.specs.Step.{fold_of}
use Rattle.edges.specs.Ranges.{rank_in_range}
use Rattle.edges.specs.Ends.{fresh_banks, fresh_acts, fresh_device, fresh_rank, start_rank}
use Rattle.edges.proofs.Ranging as rank
use Rattle.judge.specs.Answers.{OpenAnswer as Opened, SectionAnswer as Section, zeros}
use Rattle.judge.specs.declared.State.{State}
use Rattle.judge.specs.Ranges.{ranks_agree, in_range}
use Rattle.judge.specs.Calls.{start_of, opened_by, open_of, folded, taken_by, section_of}
use Rattle.judge.proofs.Folds.{fold-kept, level-on}
use Rattle.judge.proofs.Ranging as state
use Rattle.sections.proofs.Openings.{either-edition, opened-header, opened-state, taken-sound}

-- ── From the facts to the test ──────────────────────────────────────────────────────────────

agree-one : (s : State) → s.edition ≡ 1 → ranks_agree s ≡ true
unfolding ranks_agree
agree-one s e = rw e

agree-two : (s : State) → s.edition ≡ 2 → rank_in_range s.two ≡ true → s.one.count ≡ s.two.count → s.one.edge ≡ s.two.edge → ranks_agree s ≡ true
unfolding ranks_agree
agree-two s e r c t = rw (eq-eqb s.edition 2 e, r, eq-eqb s.one.count s.two.count c, eq-eqb s.one.edge s.two.edge t)

in-range : (s : State) → 1 ≤ (t_refi s.header).clocks → rank_in_range s.one ≡ true → ranks_agree s ≡ true → in_range s ≡ true
unfolding in_range
in-range s some r a = rw (le-leb 1 (t_refi s.header).clocks some, r, a)

-- ── Opening ─────────────────────────────────────────────────────────────────────────────────

start-ranged : (h : Header) → rank_in_range (start_rank (chip_of h)) ≡ true
unfolding fresh_rank fresh_banks fresh_acts fresh_device chip_of
start-ranged h = rank.in-range (start_rank (chip_of h)) (record {
  edge = omega arith;
  count = omega arith;
  debt = (omega (arith, (bounds h).refi), omega (arith, (bounds h).nine));
  turn = omega arith;
  broke = omega arith;
  turned = omega arith;
  acted = λ b l. rw (get_or-replicate {A = ℕ} 8 b 0 0 l) (omega arith);
  ring = λ i l. rw (get_or-replicate {A = ℕ} 4 i 0 0 l) (omega arith);
})

start-in-range : (h : Header) (e : ℕ) → 1 ≤ (t_refi h).clocks → (e ≡ 1) ⊎ (e ≡ 2) → in_range (start_of h e) ≡ true
start-in-range h e some w =
    in-range (start_of h e) some (start-ranged h)
    (⊎_elim (agree-one (start_of h e)) (λ t. agree-two (start_of h e) t (start-ranged h) refl refl) w)

pub open-in-range : (bytes : List ℕ) → (open_of bytes).refused ≡ 0 → in_range (open_of bytes).state ≡ true
unfolding chip_of
open-in-range bytes z =
    let w = opened-header bytes z in
    let h = w.0 in
    ap (λ (o : Opened). in_range o.state) (opened-state bytes h w.1)
    ∙ start-in-range h (edition_for bytes) (taken-sound (edition_for bytes) bytes h w.1).refi-least (either-edition bytes)

-- ── A section ───────────────────────────────────────────────────────────────────────────────

module _ (s : State) (bs : List ℕ) (h : in_range s ≡ true) where
  k : state.Tested s
  k = state.tested s h

  module _ (room : s.one.count + length bs / size s.edition ≤ limit) where
    first : rank_in_range (folded s bs).one ≡ true
    first =
        (fold-kept (chip_of s.header) (small s.header k.some) s.one k.rank (view s.edition false bs)
        (omega (arith, view-count s.edition bs))).0

    both : s.edition ≡ 2 → ranks_agree (folded s bs) ≡ true
    both e =
        let a = k.second e in
        let w = level-on (chip_of s.header) (wides bs) s.one s.two a.count a.edge in
        agree-two (folded s bs) e
        (fold-kept (chip_of s.header) (small s.header k.some) s.two a.rank (view s.edition true bs)
        (omega (arith, second-most s.edition bs, a.count))).0
        (same (λ n. n.count) w.0) (same (λ n. n.edge) w.1)
      where
        seen : (second : Bool) (n : Rank) → fold_of (chip_of s.header) n (records (view s.edition second bs)) ≡ fold_of (chip_of s.header) n (map (rank_of second) (wides bs))
        seen second n =
            ap (λ xs. fold_of (chip_of s.header) n (records xs)) (ap (λ (a : ℕ). view a second bs) e ∙ view-two second bs)
            ∙ ap (fold_of (chip_of s.header) n) (records-narrow second bs)

        same : (f : Rank → ℕ)
            → f (fold_of (chip_of s.header) s.one (map (rank_of false) (wides bs))) ≡ f (fold_of (chip_of s.header) s.two (map (rank_of true) (wides bs)))
            → f (folded s bs).one ≡ f (folded s bs).two
        same f q = ap f (seen false s.one) ∙ q ∙ sym (ap f (seen true s.two))

    folded-in-range : in_range (folded s bs) ≡ true
    folded-in-range = elim (ℕ_discrete s.edition 2) [
      | yes e ↦ in-range (folded s bs) k.some first (both e)
      | no n ↦ in-range (folded s bs) k.some first (agree-one (folded s bs) (k.only n))
    ]

  pub section-in-range : in_range (section_of s bs).state ≡ true
  unfolding refusal
  section-in-range =
      ap (λ (t : Section). in_range t.state) (sym (state.section-by s h bs (refusal s.edition s.one.count bs) refl))
      ∙ go (eqb (length bs % size s.edition) 0) (ltb limit (s.one.count + length bs / size s.edition)) refl (has_zero (records (view s.edition false bs)))
      (spare_in s.edition bs)
    where
      go : (x y : Bool) → ltb limit (s.one.count + length bs / size s.edition) ≡ y → (z w : Bool)
          → in_range (taken_by (cond x (cond y 7 (cond z 6 (cond w 14 0))) 5) s bs).state ≡ true
      go true false q false false = folded-in-range (ltb-false _ _ q)
      go true false q false true = h
      go true false q true w = h
      go true true q z w = h
      go false y q z w = h

-- `State::unopened` is refused with 17 by every section and closing: its interval is 0
pub unopened-out-of-range : in_range zeros ≡ false
unfolding in_range
unopened-out-of-range = rw (down-zero 7800000)

-- and so is what a refused opening comes with
pub refused-out-of-range : (bytes : List ℕ) → ((open_of bytes).refused ≡ 0 → ⊥) → in_range (open_of bytes).state ≡ false
unfolding open_of in_range
refused-out-of-range bytes n = go (parsed_of (edition_for bytes) bytes) n
  where
    go : (p : Parsed) → ((opened_by (edition_for bytes) p).refused ≡ 0 → ⊥) → in_range (opened_by (edition_for bytes) p).state ≡ false
    go (Ok h) m = absurd (m refl)
    go (Err k) m = unopened-out-of-range
