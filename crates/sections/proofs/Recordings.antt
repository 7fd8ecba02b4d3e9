-- A whole recording in one section: opening, that section and closing answer what the definitions of a whole recording say.
-- Assumes nothing.
use Prim.Native.Nat.{ℕ, ◌/◌, ◌%◌, ◌≤◌, ◌<◌}
use native.Mathlib.Nat.{zero-add, zero-div}
use native.Mathlib.Omega.{arith}
use mathlib.Core.Path.{◌≡◌, refl, sym, ap, ◌∙◌, subst}
use mathlib.Core.Bool.{Bool, true, false, cond, ◌&&◌, ◌||◌}
use mathlib.Core.List.{List, []}
use lib.Dec.{eqb, ltb}
use lib.ListN.{length, length-take}
use lib.Seq.{get_or-take}
use borrow.Author.Tests.{eq-eqb, ne_eqb, eqb-true, eqb-false, ltb-false}
use Rattle.header.specs.declared.Header.{Header}
use Rattle.header.specs.Bytes.{Parsed}
use Rattle.std.specs.Prelude.{Ok, Err}
use Rattle.header.specs.Bins.{bin_of}
use Rattle.header.specs.Bytes.{edition_for, parsed_of, edition, bin, zero_a, zero_b, period, fields_refusal, header_refusal, header_word, header_of}
use Rattle.refusals.specs.Refusals.{number_in}
use Rattle.header.proofs.Answers.{number_is}
use Rattle.records.specs.Record.{records, has_zero}
use Rattle.records.proofs.Records.{length-records}
use Rattle.wide.specs.Editions.{size, view, spare_in, refusal}
use Rattle.wide.proofs.Editions.{view-count, second-most, second-zero}
use Rattle.chip.specs.Chip.{chip_of}
use Rattle.judge.specs.declared.State.{State}
use Rattle.judge.specs.Answers.{CloseAnswer as Closed}
use Rattle.judge.specs.Answers.{SectionAnswer as Section}
use Rattle.judge.specs.Calls.{opened_by, open_of, section_of, of_second, close_of, closed, not_closed}
use Rattle.running.specs.Ranges.{limit, last_edge}
use Rattle.running.specs.Ends.{no_end}
use Rattle.rules.specs.Past.{edge, number}
use Rattle.rules.specs.Verdict.{shown_verdict, Apart, answer}
use Rattle.rules.proofs.Cutting.{number-all, steps, apart-all}
use Rattle.rules.proofs.Facts.{Sound}
use Rattle.sections.specs.Recording.{header_bytes, body, past, end_refusal, records_refusal, whole_refusal, whole_verdict}
use Rattle.sections.specs.Sections.{Opens}
use Rattle.sections.proofs.Openings.{least-period, taken_is, opened-header}
use Rattle.sections.proofs.Section.{fits, Stands, refused-by, close-is}
use Rattle.sections.proofs.Sections.{sound-chip, opened as opened-stands, stands-more}

pub opened-number : (e : ℕ) (p : Parsed) → (opened_by e p).refused ≡ number_in p
opened-number e (Ok h) = refl
opened-number e (Err n) = refl

-- the first four bits are the header's
pub same-edition : (bs : List ℕ) → edition_for (header_bytes bs) ≡ edition_for bs
unfolding edition_for
same-edition bs = rw (get_or-take 6 bs 0 0 (omega arith))

fields-most : (e w : ℕ) → fields_refusal e w ≤ 4
unfolding fields_refusal
fields-most e w = go (eqb (edition w) e) (eqb (zero_a w) 0 && eqb (zero_b w) 0) (ltb (period w) (bin_of (bin w)).least || ltb 3300 (period w))
  where
    go : (x y z : Bool) → cond x (cond y (cond z 4 0) 3) 2 ≤ 4
    go true true true = omega arith
    go true true false = omega arith
    go true false z = omega arith
    go false y z = omega arith

-- no number of a whole recording's refusals is above 14
pub refusal-most : (bs : List ℕ) (end : ℕ) → whole_refusal bs end ≤ 14
unfolding whole_refusal records_refusal header_refusal
refusal-most bs end =
    go (eqb (length (header_bytes bs)) 6) (fields_refusal (edition_for bs) (header_word (header_bytes bs))) (fields-most _ _)
    (eqb (length (body bs) % size (edition_for bs)) 0) (ltb 1048576 (length (body bs) / size (edition_for bs)))
    (has_zero (records (view (edition_for bs) false (body bs)))) (spare_in (edition_for bs) (body bs))
    (ltb end (edge (past false bs)) || ltb 17592186044416 end)
  where
    rest : (x y z s w : Bool) → cond x (cond y 7 (cond z 6 (cond s 14 (cond w 8 0)))) 5 ≤ 14
    rest true true z s w = omega arith
    rest true false true s w = omega arith
    rest true false false true w = omega arith
    rest true false false false true = omega arith
    rest true false false false false = omega arith
    rest false y z s w = omega arith

    chosen : (v : Bool) (n m : ℕ) → n ≤ 14 → m ≤ 14 → cond v n m ≤ 14
    chosen true n m p q = p
    chosen false n m p q = q

    go : (u : Bool) (n : ℕ) → n ≤ 4 → (x y z s w : Bool)
        → cond (eqb (cond u n 1) 0) (cond x (cond y 7 (cond z 6 (cond s 14 (cond w 8 0)))) 5) (cond u n 1) ≤ 14
    go true n l x y z s w = chosen (eqb n 0) _ _ (rest x y z s w) (omega arith)
    go false n l x y z s w = omega arith

-- "whole recording: fewer than 6"
pub too_short : (bs : List ℕ) (end : ℕ) → length bs < 6 → 1 ≡ whole_refusal bs end
unfolding whole_refusal header_refusal
too_short bs end l = rw (ne_eqb (length (header_bytes bs)) 6 (λ e. omega (arith, length-take 6 bs)))

module _ (bs : List ℕ) (end : ℕ) where
  abbrev e : ℕ
  e = edition_for bs

  abbrev opened : State
  opened = (open_of (header_bytes bs)).state

  abbrev section : Section
  section = section_of opened (body bs)

  abbrev ended : Closed
  ended = close_of section.state end

  open-number : (open_of (header_bytes bs)).refused ≡ header_refusal e (header_bytes bs)
  unfolding open_of
  open-number =
      opened-number (edition_for (header_bytes bs)) (parsed_of (edition_for (header_bytes bs)) (header_bytes bs))
      ∙ number_is (edition_for (header_bytes bs)) (header_bytes bs) ∙ ap (λ (a : ℕ). header_refusal a (header_bytes bs)) (same-edition bs)

  -- the header is refused
  pub not_opened : ((open_of (header_bytes bs)).refused ≡ 0 → ⊥) → (open_of (header_bytes bs)).refused ≡ whole_refusal bs end
  unfolding whole_refusal
  not_opened n = open-number ∙ rw (ne_eqb (header_refusal e (header_bytes bs)) 0 (λ z. n (open-number ∙ z)))

  module _ (z : (open_of (header_bytes bs)).refused ≡ 0) where
    abbrev h : Header
    h = (opened-header (header_bytes bs) z).0

    is : Opens (header_bytes bs) h
    is = (opened-header (header_bytes bs) z).1

    S : Sound (chip_of h)
    S = sound-chip (header_bytes bs) h is

    begun : Stands h e [] opened
    begun = subst (λ (a : ℕ). Stands h a [] opened) (same-edition bs) (opened-stands (header_bytes bs) h is)

    by-records : whole_refusal bs end ≡ records_refusal bs end
    unfolding whole_refusal
    by-records = rw (eq-eqb (header_refusal e (header_bytes bs)) 0 (sym open-number ∙ z))

    section-number : section.refused ≡ refusal e 0 (body bs)
    section-number = refused-by h S e [] opened begun (body bs) ∙ ap (λ (n : ℕ). refusal e n (body bs)) (zero-div (size e))

    -- 5, 7, 6, 14 are the section's; then 8 is closing's
    then-end : records_refusal bs end ≡ cond (eqb (refusal e 0 (body bs)) 0) (end_refusal bs end) (refusal e 0 (body bs))
    unfolding records_refusal refusal
    then-end =
        rw (zero-add (length (body bs) / size e))
        (go (eqb (length (body bs) % size e) 0) (ltb limit (length (body bs) / size e)) (has_zero (records (view e false (body bs)))) (spare_in e (body bs)))
      where
        go : (x y w s : Bool)
            → ◌≡◌ {A = ℕ} (cond x (cond y 7 (cond w 6 (cond s 14 (end_refusal bs end)))) 5)
            (cond (eqb (cond x (cond y 7 (cond w 6 (cond s 14 0))) 5) 0) (end_refusal bs end) (cond x (cond y 7 (cond w 6 (cond s 14 0))) 5))
        go true true w s = refl
        go true false true s = refl
        go true false false true = refl
        go true false false false = refl
        go false y w s = refl

    -- the records are refused
    pub not_taken : (section.refused ≡ 0 → ⊥) → section.refused ≡ whole_refusal bs end
    not_taken n =
        section-number
        ∙ sym (by-records ∙ then-end ∙ ap (λ x. cond x (end_refusal bs end) (refusal e 0 (body bs))) (ne_eqb _ 0 (λ q. n (section-number ∙ q))))

    module _ (t : section.refused ≡ 0) where
      closed_is :
          ended
          ≡ cond (ltb end (edge (past false bs)) || ltb last_edge end) (not_closed 8)
          (closed (answer (chip_of h) (past false bs) end) (of_second e (answer (chip_of h) (past true bs) end) no_end))
      closed_is =
          close-is h S e (body bs) section.state
          (stands-more h S e [] opened begun (body bs) (rw (zero-div (size e)) (fits e 0 (body bs) (sym section-number ∙ t)))) end

      whole-end : whole_refusal bs end ≡ end_refusal bs end
      whole-end = by-records ∙ then-end ∙ ap (λ x. cond x (end_refusal bs end) (refusal e 0 (body bs))) (eq-eqb _ 0 (sym section-number ∙ t))

      pub closed-number : ended.refused ≡ whole_refusal bs end
      unfolding answer
      closed-number = ap (λ (c : Closed). c.refused) closed_is ∙ go (ltb end (edge (past false bs)) || ltb last_edge end) ∙ sym whole-end
        where
          go : (x : Bool)
              → (cond x (not_closed 8) (closed (answer (chip_of h) (past false bs) end) (of_second e (answer (chip_of h) (past true bs) end) no_end))).refused ≡ cond x 8 0
          go true = refl
          go false = refl

      module _ (c : ended.refused ≡ 0) where
        -- closing is not refused
        ended_is : ended ≡ closed (answer (chip_of h) (past false bs) end) (of_second e (answer (chip_of h) (past true bs) end) no_end)
        ended_is = go (ltb end (edge (past false bs)) || ltb last_edge end) closed_is
          where
            go : (x : Bool)
                → ended ≡ cond x (not_closed 8) (closed (answer (chip_of h) (past false bs) end) (of_second e (answer (chip_of h) (past true bs) end) no_end))
                → ended ≡ closed (answer (chip_of h) (past false bs) end) (of_second e (answer (chip_of h) (past true bs) end) no_end)
            go true q = absurd (omega (arith, sym c ∙ ap (λ (y : Closed). y.refused) q))
            go false q = q

        told : (second : Bool) → (answer (chip_of h) (past second bs) end).verdict ≡ whole_verdict second bs end
        unfolding answer whole_verdict
        told second =
            ap (λ x. shown_verdict (chip_of x) (past second bs) end) (sym (taken_is (edition_for (header_bytes bs)) (header_bytes bs) h is).1)

        pub closed-verdict : ended.end.verdict ≡ whole_verdict false bs end
        closed-verdict = ap (λ (y : Closed). y.end.verdict) ended_is ∙ told false

        pub closed-second : e ≡ 2 → ended.second.verdict ≡ whole_verdict true bs end
        closed-second two =
            ap (λ (y : Closed). y.second.verdict) ended_is
            ∙ ap (λ (x : Bool). (cond x (answer (chip_of h) (past true bs) end) no_end).verdict) (eq-eqb e 2 two) ∙ told true

-- ── A recording that is not refused ─────────────────────────────────────────────────────────

pub record Good (bs : List ℕ) (end : ℕ) : Type 0 where
  pub least : 1070 ≤ (header_of (header_word (header_bytes bs))).period.ps
  pub apart : (second : Bool) → Apart (past second bs)
  pub few : (second : Bool) → number (past second bs) ≤ 1048576
  pub near : end ≤ 17592186044416

-- what a rank sees of it
abbrev seen : List ℕ → (second : Bool) → List ℕ
seen bs second = view (edition_for bs) second (body bs)

pub good : (bs : List ℕ) (end : ℕ) → whole_refusal bs end ≡ 0 → Good bs end
unfolding whole_refusal records_refusal
good bs end taken =
    go (eqb (header_refusal (edition_for bs) (header_bytes bs)) 0) refl (eqb (length (body bs) % size (edition_for bs)) 0)
    (ltb 1048576 (length (body bs) / size (edition_for bs))) refl
    (has_zero (records (view (edition_for bs) false (body bs)))) refl (spare_in (edition_for bs) (body bs)) (ltb end (edge (past false bs))) (ltb 17592186044416 end) refl taken
  where
    none : has_zero (records (seen bs false)) ≡ false → (second : Bool) → has_zero (records (seen bs second)) ≡ false
    none t true = second-zero (edition_for bs) (body bs) t
    none t false = t

    counts : (second : Bool) → length (seen bs second) / 6 ≤ length (body bs) / size (edition_for bs)
    counts true = second-most (edition_for bs) (body bs)
    counts false = omega (arith, view-count (edition_for bs) (body bs))

    go :
        (x : Bool) → eqb (header_refusal (edition_for bs) (header_bytes bs)) 0 ≡ x → (s : Bool)
        → (l : Bool) → ltb 1048576 (length (body bs) / size (edition_for bs)) ≡ l → (z : Bool) → has_zero (records (seen bs false)) ≡ z
        → (w a b : Bool) → ltb 17592186044416 end ≡ b
        → cond x (cond s (cond l 7 (cond z 6 (cond w 14 (cond (a || b) 8 0)))) 5) (header_refusal (edition_for bs) (header_bytes bs)) ≡ 0 → Good bs end
    go true p true false r false t false false false u q =
        record {
          least = least-period (edition_for bs) (header_bytes bs) (eqb-true _ _ p);
          apart = λ second. apart-all (records (seen bs second)) [] (steps (records (seen bs second)) (none t second)) tt;
          few = λ second.
              omega (arith, number-all (records (seen bs second)) [], length-records (seen bs second), counts second, ltb-false 1048576 (length (body bs) / size (edition_for bs)) r);
          near = ltb-false _ _ u;
        }
    go true p true false r false t false false true u q = absurd (omega arith)
    go true p true false r false t false true b u q = absurd (omega arith)
    go true p true false r false t true a b u q = absurd (omega arith)
    go true p true false r true t w a b u q = absurd (omega arith)
    go true p true true r z t w a b u q = absurd (omega arith)
    go true p false l r z t w a b u q = absurd (omega arith)
    go false p s l r z t w a b u q = absurd (eqb-false _ _ p q)
