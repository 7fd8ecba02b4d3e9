-- From one place of a section to a later one: a lane, a record by the marks, and one after the other.
-- Assumes nothing.
use Prim.Native.Nat.{ℕ, ◌+◌, ◌-◌, ◌/◌, ◌%◌, ◌≤◌, ◌<◌}
use native.Mathlib.Omega.{arith}
use mathlib.Core.List.{List}
use mathlib.Core.Path.{◌≡◌, refl, sym, subst}
use lib.ListN.{length}
use Rattle.laws.specs.Eight.{table}
use Rattle.records.specs.declared.Record.{Record}
use Rattle.records.specs.Record.{record_at}
use Rattle.chip.specs.declared.Chip.{Chip}
use Rattle.running.specs.Ranges.{limit, Small}
use Rattle.edges.specs.declared.Rank.{Rank}
use Rattle.edges.specs.Step.{step_of}
use Rattle.edges.specs.Floors.{under, settled}
use Rattle.edges.specs.Ranges.{Ranged, Ready}
use Rattle.edges.specs.Running.{Track, Rest, rank_of, Along, rest_in}
use Rattle.edges.specs.Lane.{track_in, Fit, Smoothly}
use Rattle.edges.specs.Folding.{Reached, Counting}
use Rattle.edges.proofs.Stands.{whole-record, short-step, one_more_lem}
use Rattle.edges.proofs.Ranging.{step-goes}
use Rattle.edges.proofs.Folding.{Lengths, Whole, stand-at, stand-sizes, apart, along-none, along-also, along_one}

module _ (C : Chip) (bytes : List ℕ) where
  -- what a rank needs to go on
  fits : (n : Rank) (at : ℕ) → Small C → Ranged n → Whole n → at ≤ length bytes → (length bytes - at) % 6 ≡ 0 → n.count + (length bytes - at) / 6 ≤ limit
      → Fit C bytes at n.debt n.device (track_in n)
  fits n at small r w within sixes room = record {
    base = stand-at C bytes at (track_in n) small within sixes r.edge room r.turn r.acted r.ring w.track;
    debt = r.debt;
    turned = r.turned;
  }

  pub reached-start : (s : Rank) → Ready C s bytes → Whole s → s.first.outcome ≡ 0 → Reached C bytes s 0 s 0
  reached-start s ready w clean = record {
    fit = fits s 0 ready.small ready.range w (omega arith) (omega (arith, ready.sixes)) (omega (arith, ready.room));
    holds = w.holds;
    clean = clean;
    broke = ready.range.broke;
    along = along-none C bytes s 0 s refl;
    later = omega arith;
  }

  pub reached-self : (s : Rank) (from : ℕ) (n : Rank) (at : ℕ) → Reached C bytes s from n at → Reached C bytes n at n at
  reached-self s from n at f = record { fit = f.fit; holds = f.holds; clean = f.clean; broke = f.broke; along = along-none C bytes n at n refl; later = omega arith }

  pub reached-also : (s : Rank) (from : ℕ) (m : Rank) (at : ℕ) (n : Rank) (at' : ℕ) → Reached C bytes s from m at → Reached C bytes m at n at' → Reached C bytes s from n at'
  reached-also s from m at n at' f g = record {
    fit = g.fit;
    holds = g.holds;
    clean = g.clean;
    broke = g.broke;
    along = along-also C bytes f.along g.along;
    later = omega (arith, f.later, g.later);
  }

  -- a lane from s on, the floor put in
  pub reached-lane :
      (s : Rank) (from : ℕ) → Reached C bytes s from s from → (d : Rest) (t : Track) (at : ℕ) → Smoothly C bytes (rest_in s) (track_in s) from d t at
      → Reached C bytes s from (rank_of d t) at
  unfolding settled under table
  reached-lane s from f d t at q =
      let b = q.stands.fit.base in
      record {
        fit = record { base = stand-at C bytes at _ b.small b.within b.sixes b.edge b.room b.turn b.acted b.ring long; debt = q.stands.fit.debt; turned = q.stands.fit.turned };
        holds = refl;
        clean = q.stands.clean;
        broke = q.stands.broke;
        along = subst (λ (n : Rank). Along C bytes n from (rank_of d t) at) (apart s (record { track = stand-sizes f.fit.base; holds = f.holds })) q.along;
        later = q.later;
      }
    where
      long : Lengths (track_in (rank_of d t))
      long = record {
        act = refl;
        col = refl;
        pre = refl;
        acted = q.stands.fit.base.actedsize;
        num = q.stands.fit.base.numsize;
        shut = q.stands.fit.base.shutsize;
        by = q.stands.fit.base.bysize;
        ring = q.stands.fit.base.ringsize;
      }

  -- a record by the marks
  module _ (s : Rank) (from : ℕ) (m : Rank) (at : ℕ) (f : Reached C bytes s from m at) where
    pub reached-ranged : Ranged m
    reached-ranged = record {
      edge = f.fit.base.edge;
      count = omega (arith, f.fit.base.room);
      debt = f.fit.debt;
      turned = f.fit.turned;
      turn = f.fit.base.turn;
      broke = f.broke;
      acted = f.fit.base.acted;
      ring = f.fit.base.ring;
    }

    module _ (more : at < length bytes) (r : Record) (is : r ≡ record_at bytes at) where
      pub reached-whole : at + 6 ≤ length bytes
      reached-whole = whole-record C 0 bytes at (track_in m) f.fit.base more r is

      pub reached-short : r.step ≤ 16777216
      reached-short = omega (arith, short-step C 0 bytes at (track_in m) f.fit.base more r is)

      pub reached-room : m.count + 1 ≤ limit
      reached-room = one_more_lem C 0 bytes at (track_in m) f.fit.base more r is

      module _ (some : r.step ≡ 0 → ⊥) (n : Rank) (by : n ≡ step_of C m r) where
        goes : Ranged n × (n.count ≡ m.count + 1)
        goes = rw by (step-goes C f.fit.base.small m r reached-ranged reached-room reached-short)

        pub step-along : Along C bytes s from n (at + 6)
        step-along = along-also C bytes f.along (along_one C bytes m n at r reached-whole is some (sym by))

        pub step-counting : (n.first.outcome ≡ 0 → ⊥) → Counting n bytes (at + 6)
        step-counting broken = record {
          broken = broken;
          within = reached-whole;
          sixes = omega (arith, f.fit.base.sixes, reached-whole);
          edge = goes.0.edge;
          room = omega (arith, f.fit.base.room, f.fit.base.sixes, reached-whole, goes.1);
        }

        pub step-reached : n.first.outcome ≡ 0 → Whole n → Reached C bytes s from n (at + 6)
        step-reached clean w = record {
          fit = fits n (at + 6) f.fit.base.small goes.0 w reached-whole (omega (arith, f.fit.base.sixes, reached-whole))
              (omega (arith, f.fit.base.room, f.fit.base.sixes, reached-whole, goes.1));
          holds = w.holds;
          clean = clean;
          broke = goes.0.broke;
          along = step-along;
          later = omega (arith, f.later);
        }
