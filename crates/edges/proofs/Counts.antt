-- After a break the records are only counted.
-- Assumes nothing.
use Prim.Native.Nat.{ℕ, ◌+◌, ◌≤◌, ◌<◌}
use native.Mathlib.Omega.{arith}
use mathlib.Core.Bool.{true, false, cond}
use mathlib.Core.List.{List}
use mathlib.Core.Path.{◌≡◌, refl, sym, ap, ◌∙◌}
use lib.ListN.{length, drop}
use borrow.Author.Tests.{eq-eqb, ne_eqb}
use Rattle.records.specs.declared.Record.{Record}
use Rattle.records.specs.Record.{records, record_at, has_zero}
use Rattle.chip.specs.declared.Chip.{Chip}
use Rattle.running.specs.Ranges.{limit, last_edge}
use Rattle.records.proofs.Records.{at-step, at-end, step-at}
use Rattle.edges.specs.declared.Rank.{Rank}
use Rattle.edges.specs.Folded.{Folded}
use Rattle.edges.specs.Step.{stopped_of, step_of}
use Rattle.edges.specs.Folding.{folded_from, Counting, Counts}
use Rattle.edges.proofs.Folding.{along-none, along-also, along_one}

-- a broken rank counts
pub counts_step : (C : Chip) (n : Rank) (r : Record) → (n.first.outcome ≡ 0 → ⊥) → step_of C n r ≡ stopped_of n r n.first
unfolding step_of
counts_step C n r broken = rw (ne_eqb n.first.outcome 0 broken)

module _ (bytes : List ℕ) (n : Rank) (from : ℕ) where
  pub counts_start : Counting n bytes from → Counts bytes n from n from
  counts_start h = record { ready = h; along = λ C. along-none C bytes n from n refl }

  module _ (m : Rank) (at : ℕ) (h : Counts bytes n from m at) where
    here : (s : Rank) (C : Chip) → folded_from C s m bytes at ≡ folded_from C s n bytes from
    here s C = λ i. cond ((h.along C).zero i) (record { zero = true; rank = s }) (record { zero = false; rank = (h.along C).same i })

    pub counts_end : (s : Rank) (C : Chip) → length bytes ≤ at → ◌≡◌ {A = Folded} (record { zero = false; rank = m }) (folded_from C s n bytes from)
    counts_end s C l = now ∙ here s C
      where
        now : ◌≡◌ {A = Folded} (record { zero = false; rank = m }) (folded_from C s m bytes at)
        now = rw (at-end bytes at l)

    module _ (r : Record) (is : r ≡ record_at bytes at) (more : at < length bytes) where
      pub counts_whole : at + 6 ≤ length bytes
      counts_whole = omega (arith, h.ready.sixes, more)

      pub counts-edge : m.edge + r.step ≤ last_edge
      counts-edge = omega (arith, short, h.ready.edge, h.ready.room, h.ready.sixes, more)
        where
          short : r.step < 16777216
          short = rw is (step-at bytes at)

      pub counts-count : m.count + 1 ≤ limit
      counts-count = omega (arith, h.ready.room, h.ready.sixes, more)

      pub counts_zero : (s : Rank) (C : Chip) → r.step ≡ 0 → ◌≡◌ {A = Folded} (record { zero = true; rank = s }) (folded_from C s n bytes from)
      counts_zero s C z = now ∙ here s C
        where
          zero-now : has_zero (records (drop at bytes)) ≡ true
          zero-now = rw (at-step bytes at counts_whole, eq-eqb (record_at bytes at).step 0 (ap (λ (x : Record). x.step) (sym is) ∙ z))

          now : ◌≡◌ {A = Folded} (record { zero = true; rank = s }) (folded_from C s m bytes at)
          now = rw zero-now

      pub counts-next : (r.step ≡ 0 → ⊥) → Counts bytes n from (stopped_of m r m.first) (at + 6)
      unfolding stopped_of
      counts-next some = record {
        ready = record {
          broken = h.ready.broken;
          within = counts_whole;
          sixes = omega (arith, h.ready.sixes, counts_whole);
          edge = omega (arith, short, h.ready.edge);
          room = omega (arith, h.ready.room, h.ready.sixes, counts_whole);
        };
        along = λ C. along-also C bytes (h.along C) (along_one C bytes m (stopped_of m r m.first) at r counts_whole is some (counts_step C m r h.ready.broken));
      }
        where
          short : r.step < 16777216
          short = rw is (step-at bytes at)
