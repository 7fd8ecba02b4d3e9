-- Where the loop stands after a turn of the quick way.
-- Assumes nothing.
use Prim.Native.Nat.{ℕ, ◌+◌, ◌≤◌, ◌<◌}
use native.Mathlib.Omega.{arith}
use mathlib.Core.Bool.{Bool, true, cond}
use mathlib.Core.List.{List}
use mathlib.Core.Path.{◌≡◌, sym, ap, ◌∙◌}
use lib.Dec.{eqb}
use lib.ListN.{get_or, set, length, drop}
use borrow.Author.Tests.{ne_eqb}
use Rattle.laws.proofs.Eight.{at_set}
use Rattle.records.specs.declared.Record.{Record}
use Rattle.records.specs.Record.{records, record_at, has_zero}
use Rattle.chip.specs.declared.Chip.{Chip}
use Rattle.running.specs.declared.Asks.{Asks}
use Rattle.running.specs.Ranges.{limit, last_edge}
use Rattle.records.proofs.Records.{at-step, step-at}
use Rattle.edges.specs.declared.Banks.{Banks}
use Rattle.edges.specs.declared.Acts.{Acts}
use Rattle.edges.specs.declared.Floor.{Floor}
use Rattle.edges.specs.Step.{step_of, fold_of}
use Rattle.edges.specs.Running.{Track, Rest, rank_of, Quiet, Standing, Quickly}
use Rattle.edges.proofs.Dues.{NoneSoon}

-- ── A list after a store ────────────────────────────────────────────────────────────────────

stored : (P : ℕ → Type 0) (xs : List ℕ) (i v : ℕ) → P v → ((b : ℕ) → P (get_or xs b 0)) → (b : ℕ) → P (get_or (set xs i v) b 0)
stored P xs i v p h b = at_set P 0 xs i v b p (h b)

-- ── A record further ────────────────────────────────────────────────────────────────────────

module _ (C : Chip) (clear : ℕ) (bytes : List ℕ) (at : ℕ) (t : Track) (st : Standing C clear bytes at t) (h : at < length bytes)
    (r : Record) (is : r ≡ record_at bytes at) where
  pub whole-record : at + 6 ≤ length bytes
  whole-record = omega (arith, st.sixes)

  pub short-step : r.step < 16777216
  short-step = rw is (step-at bytes at)

  pub last-edge : t.edge + r.step ≤ last_edge
  last-edge = omega (arith, short-step, st.edge, st.room, st.sixes)

  pub one_more_lem : t.count + 1 ≤ limit
  one_more_lem = omega (arith, st.room, st.sixes)

  -- what a way has to show
  pub further :
      (B : Banks) (act col pre : List ℕ) (A : Acts) (g : Floor)
      → ((b : ℕ) → b < 8 → get_or B.actat b 0 ≤ last_edge) → ((i : ℕ) → i < 4 → get_or A.at i 0 ≤ last_edge)
      → (t.edge + r.step < clear → (b : ℕ) → b < 8 → get_or B.actno b 0 ≤ t.count + 1) → NoneSoon C B (t.edge + r.step) clear → A.turn ≤ 3
      → length act ≡ 8 → length col ≡ 16 → length pre ≡ 8 → length B.actat ≡ 8 → length B.actno ≡ 8 → length B.shutat ≡ 8 → length B.shutno ≡ 8 → length A.at ≡ 4
      → Standing C clear bytes (at + 6)
      (record { edge = t.edge + r.step; count = t.count + 1; banks = B; act = act; col = col; pre = pre; acts = A; floor = g })
  further B act col pre A g acted ring acting due turn l1 l2 l3 l4 l5 l6 l7 l8 = record {
    small = st.small;
    within = whole-record;
    sixes = omega (arith, st.sixes, whole-record);
    edge = omega (arith, short-step, st.edge);
    room = omega (arith, st.room, st.sixes, whole-record);
    turn = turn;
    acted = acted;
    ring = ring;
    acting = acting;
    due = due;
    soon = omega (arith, st.soon);
    actsize = l1;
    colsize = l2;
    presize = l3;
    actedsize = l4;
    numsize = l5;
    shutsize = l6;
    bysize = l7;
    ringsize = l8;
  }

  module _ (w : Asks) (put dll : Bool) (t₀ : Track) (at₀ : ℕ) (q : Quickly C w put dll clear bytes t₀ at₀ t at) where
    -- one record further
    pub quick-more :
        (t' : Track) → Standing C clear bytes (at + 6) t' → (r.step ≡ 0 → ⊥) → t.edge + r.step < clear → t'.edge ≡ t.edge + r.step → ((d : Rest) → Quiet C w put dll clear d → step_of C (rank_of d t) r ≡ rank_of d t')
        → Quickly C w put dll clear bytes t₀ at₀ t' (at + 6)
    quick-more t' st' some before moved step = record {
      stands = st';
      along = λ d k. record {
        same = let p = (q.along d k).same in ap (λ x. fold_of C x (records (drop (at + 6) bytes))) (sym (step d k)) ∙ ap (λ x. fold_of C (step_of C (rank_of d t) x) (records (drop (at + 6) bytes))) is
            ∙ sym (ap (fold_of C (rank_of d t)) (at-step bytes at whole-record)) ∙ p;
        zero = sym (ap has_zero (at-step bytes at whole-record) ∙ zero-on) ∙ (q.along d k).zero;
      };
      later = omega (arith, q.later);
      grows = omega (arith, q.grows, moved);
      below = λ _. omega (arith, moved, before);
      still = λ l. absurd (omega (arith, l, q.grows, before));
    }
      where
        zero-on : cond (eqb (record_at bytes at).step 0) true (has_zero (records (drop (at + 6) bytes))) ≡ has_zero (records (drop (at + 6) bytes))
        zero-on = rw (ne_eqb (record_at bytes at).step 0 (λ z. some (rw is z)))
