-- The turns of the loop over a section.
-- Assumes nothing.
use Prim.Native.Nat.{ℕ, ◌+◌, ◌-◌, ◌/◌, ◌%◌, ◌≤◌, ◌<◌}
use native.Mathlib.Omega.{arith}
use mathlib.Core.Bool.{Bool, true, false, cond}
use mathlib.Core.List.{List}
use mathlib.Core.Logic.{◌⊎◌, inl, inr, ⊎_elim}
use mathlib.Core.Path.{◌≡◌, refl, sym, ap, ◌∙◌, subst}
use lib.Dec.{ltb}
use lib.ListN.{get_or, length}
use borrow.Author.Tests.{ltb-true, ltb-false}
use Rattle.records.specs.declared.Record.{Record}
use Rattle.records.specs.Record.{record_at}
use Rattle.chip.specs.declared.Chip.{Chip}
use Rattle.running.specs.declared.Asks.{Asks}
use Rattle.running.specs.Easy.{Asked}
use Rattle.running.specs.Ranges.{limit, last_edge, Small}
use Rattle.edges.specs.declared.Rank.{Rank}
use Rattle.edges.specs.Views.{regs_of, written_of}
use Rattle.edges.specs.Step.{step_of}
use Rattle.edges.specs.Floors.{settled}
use Rattle.edges.specs.Ranges.{Ranged}
use Rattle.edges.specs.Running.{Track, Rest, rank_of, all_written, Quiet, Standing, Quickly}
use Rattle.edges.specs.Lane.{Fit, Clear, Folding}
use Rattle.edges.proofs.Stands.{whole-record, short-step, one_more_lem}
use Rattle.edges.proofs.Ranging.{step-goes}
use Rattle.edges.proofs.Folding.{Lengths, stand-at, stand-sizes, along-none, along-also, along_one}

lt-or-le : (a b : ℕ) → (a < b) ⊎ (b ≤ a)
lt-or-le a b = go (ltb a b) refl
  where
    go : (x : Bool) → ltb a b ≡ x → (a < b) ⊎ (b ≤ a)
    go true e = inl (ltb-true a b e)
    go false e = inr (ltb-false a b e)

module _ (C : Chip) (s : Rank) (from : ℕ) (bytes : List ℕ) where
  -- ranges of the rank from those of the track, and back
  pub ranged-in : {clear : ℕ} {real stale : Bool} {w : Asks} {d : Rest} {t : Track} {at : ℕ} → Folding C s from bytes clear real stale w d t at → Ranged (rank_of d t)
  unfolding settled
  ranged-in f = record {
    edge = f.base.edge;
    count = omega (arith, f.base.room);
    debt = f.debt;
    turn = f.base.turn;
    broke = f.broke;
    turned = f.turned;
    acted = f.base.acted;
    ring = f.base.ring;
  }

  stand-by :
      (d : Rest) (t : Track) (at : ℕ) → Small C → at ≤ length bytes → (length bytes - at) % 6 ≡ 0 → t.count + (length bytes - at) / 6 ≤ limit
      → Ranged (rank_of d t) → Lengths t → Standing C 0 bytes at t
  unfolding settled
  stand-by d t at small within sixes room r l = stand-at C bytes at t small within sixes r.edge room r.turn r.acted r.ring l

  -- the beginning
  pub fold_start : (clear : ℕ) (real : Bool) (w : Asks) (d : Rest) (t : Track) → s ≡ rank_of d t → Fit C bytes from d.debt d.device t → Clear C clear d t
      → (real ≡ true → (b : ℕ) → b < 8 → get_or t.banks.actno b 0 ≤ t.count) → d.first.outcome ≡ 0 → d.first.edge ≤ last_edge
      → Asked C (regs_of d.device) w → Folding C s from bytes clear real false w d t from
  fold_start clear real w d t same fit free acting clean broke asked = record {
    along = along-none C bytes s from (rank_of d t) (sym same);
    later = omega arith;
    base = fit.base;
    free = free;
    acting = acting;
    clean = clean;
    broke = broke;
    asked = λ _. asked;
    debt = fit.debt;
    turned = fit.turned;
  }

  module _ {clear : ℕ} {real stale : Bool} {w : Asks} {d : Rest} {t : Track} {at : ℕ} (f : Folding C s from bytes clear real stale w d t at) where
    -- where the quick way may go
    pub quick-stands : real ≡ true → Standing C clear bytes at t
    quick-stands y = record {
      small = f.base.small;
      within = f.base.within;
      sixes = f.base.sixes;
      edge = f.base.edge;
      room = f.base.room;
      turn = f.base.turn;
      acted = f.base.acted;
      ring = f.base.ring;
      acting = λ _. f.acting y;
      due = f.free.due;
      soon = f.free.near;
      actsize = f.base.actsize;
      colsize = f.base.colsize;
      presize = f.base.presize;
      actedsize = f.base.actedsize;
      numsize = f.base.numsize;
      shutsize = f.base.shutsize;
      bysize = f.base.bysize;
      ringsize = f.base.ringsize;
    }

    -- it did not
    pub quick-still : (put dll : Bool) (v : Asks) (t' : Track) (at' : ℕ) → Quickly C v put dll 0 bytes t at t' at' → Folding C s from bytes clear real stale w d t' at'
    quick-still put dll v t' at' q =
        let e = q.still (omega arith) in
        rw (e.0, e.1) f

    -- it did
    pub quick-done : real ≡ true → d.level ≡ true → (v : Asks) → Asked C (regs_of d.device) v → (t' : Track) (at' : ℕ)
        → Quickly C v (all_written d.device) (written_of d.device).dll clear bytes t at t' at' → Folding C s from bytes clear real false v d t' at'
    quick-done y high v asked t' at' q = record {
      along = along-also C bytes f.along (q.along d quiet);
      later = omega (arith, f.later, q.later);
      base = stand-at C bytes at' t' st.small st.within st.sixes st.edge st.room st.turn st.acted st.ring (stand-sizes st);
      free = record { due = st.due; near = st.soon; owed = f.free.owed; stays = f.free.stays };
      acting = λ _. acts;
      clean = f.clean;
      broke = f.broke;
      asked = λ _. asked;
      debt = (debt-later d.debt.due d.debt.sleeps f.debt.0, debt-later d.debt.gap d.debt.sleeps f.debt.1);
      turned = f.turned;
    }
      where
        st : Standing C clear bytes at' t'
        st = q.stands

        quiet : Quiet C v (all_written d.device) (written_of d.device).dll clear d
        quiet = record { clean = f.clean; level = high; asked = asked; written = refl; reset = refl; owed = f.free.owed }

        acts : (b : ℕ) → b < 8 → get_or t'.banks.actno b 0 ≤ t'.count
        acts b l = ⊎_elim
            (λ (z : t.edge < clear). st.acting (q.below z) b l)
            (λ (z : clear ≤ t.edge). let e = q.still z in subst (λ (x : Track). get_or x.banks.actno b 0 ≤ x.count) (sym e.0) (f.acting y b l))
            (lt-or-le t.edge clear)

        debt-later : (a : ℕ) (x : Bool) → a - cond x 0 t.edge ≤ 1190000000 → a - cond x 0 t'.edge ≤ 1190000000
        debt-later a true h = h
        debt-later a false h = omega (arith, h, q.grows)

    -- one record more
    module _ (h : at < length bytes) (r : Record) (is : r ≡ record_at bytes at) (some : r.step ≡ 0 → ⊥) where
      goes : Ranged (step_of C (rank_of d t) r) × ((step_of C (rank_of d t) r).count ≡ (rank_of d t).count + 1)
      unfolding settled
      goes = step-goes C f.base.small (rank_of d t) r (ranged-in f) (one_more_lem C 0 bytes at t f.base h r is) (omega (arith, short-step C 0 bytes at t f.base h r is))

      pub fold_more :
          (d' : Rest) (t' : Track) (clear' : ℕ) (stale' : Bool) (v : Asks) (real' : Bool) → step_of C (rank_of d t) r ≡ rank_of d' t' → Lengths t' → Clear C clear' d' t'
          → (real' ≡ true → (b : ℕ) → b < 8 → get_or t'.banks.actno b 0 ≤ t'.count) → d'.first.outcome ≡ 0
          → (stale' ≡ false → Asked C (regs_of d'.device) v) → Folding C s from bytes clear' real' stale' v d' t' (at + 6)
      unfolding settled
      fold_more d' t' clear' stale' v real' step long free acting clean asked =
          let le = whole-record C 0 bytes at t f.base h r is in
          let k : Ranged (rank_of d' t') = subst Ranged step goes.0 in
          let n : t'.count ≡ t.count + 1 = ap (λ (x : Rank). x.count) (sym step) ∙ goes.1 in
          record {
            along = along-also C bytes f.along (along_one C bytes (rank_of d t) (rank_of d' t') at r le is some step);
            later = omega (arith, f.later);
            base = stand-by d' t' (at + 6) f.base.small le (omega (arith, f.base.sixes, le)) (omega (arith, f.base.room, f.base.sixes, le, n)) k long;
            free = free;
            acting = acting;
            clean = clean;
            broke = k.broke;
            asked = asked;
            debt = k.debt;
            turned = k.turned;
          }
