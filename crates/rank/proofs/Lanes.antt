-- The lane's turns.
-- Assumes nothing.
use Prim.Native.Nat.{ℕ, ◌+◌, ◌<◌}
use mathlib.Core.Bool.{Bool, true, false, cond, not, ◌&&◌}
use mathlib.Core.List.{List}
use mathlib.Core.Path.{◌≡◌, refl, sym, ap, ◌∙◌, subst}
use lib.ListN.{length}
use Rattle.records.specs.declared.Record.{Record}
use Rattle.records.specs.Record.{record_at}
use Rattle.chip.specs.declared.Chip.{Chip}
use Rattle.running.specs.declared.Asks.{Asks}
use Rattle.running.specs.Easy.{Asked}
use Rattle.edges.specs.declared.Device.{Device}
use Rattle.edges.specs.declared.Rank.{Rank}
use Rattle.edges.specs.Views.{written_of, regs_of}
use Rattle.edges.specs.Running.{Track, Rest, Quickly, all_written}
use Rattle.edges.specs.Lane.{Folding}
use Rattle.edges.proofs.Lane.{lane-quick}
use Rattle.edges.proofs.Loop.{Goes as First}
use Rattle.rank.specs.declared.lane.Lane.{Lane}
use Rattle.rank.specs.Lane.{track, track_at, rest, Goes, Came}

-- the quick way went as far as it could; u: the next record is a frequent command
pub quick-on : {C : Chip} {bytes : List ℕ} {from : ℕ} {s : Rank} {clear : ℕ} {real stale : Bool} {w : Asks} {L : Lane} {at : ℕ}
    → Folding C s from bytes clear real stale w (rest L) (track L) at → (u : Bool) (w' : Asks)
    → (stale && (L.rank.level && u) ≡ true → Asked C (regs_of L.rank.device) w') → (stale && (L.rank.level && u) ≡ false → w' ≡ w)
    → (bound : ℕ) → bound ≡ cond (real && (L.rank.level && u)) clear 0 → {M : Lane} {at' : ℕ} → Came C w' bound bytes L (track L) at M (track M) at'
    → Folding C s from bytes clear real (stale && not (L.rank.level && u)) w' (rest M) (track M) at'
quick-on {C} {bytes} {from} {s} {clear} {real} {stale} {w} {L} f u w' anew same bound is {M} {at'} came =
    subst (λ (d : Rest). Folding C s from bytes clear real (stale && not (L.rank.level && u)) w' d (track M) at') (sym came.same)
    (lane-quick f u w' anew same bound is (track M) at' came.quickly)

-- a frequent command came
pub came-on : {C : Chip} {w : Asks} {clear : ℕ} {bytes : List ℕ} {L : Lane} {t : Track} {from : ℕ} {M : Lane} {x m at : ℕ}
    → Came C w clear bytes L t from M (track_at M x m) at → at < length bytes → (r : Record) → r ≡ record_at bytes at → First r.step clear (x + r.step) r.cke r.pins
    → {N : Lane} → Goes C w r (x + r.step) (m + 1) M N → Came C w clear bytes L t from N (track_at N (x + r.step) (m + 1)) (at + 6)
came-on {C} {w} {clear} {bytes} {L} {t} {from} {M} {x} {m} {at} came more r is first {N} goes =
    let same : M.rank.device ≡ L.rank.device = ap (λ (d : Rest). d.device) came.same in
    record {
      quickly = subst (By (track_at N (x + r.step) (m + 1)) (at + 6)) same
          ((goes.turns x m refl refl).further clear bytes t from at (subst (By (track_at M x m) at) (sym same) came.quickly) more is first.some first.high first.before);
      same = goes.same ∙ came.same;
    }
  where
    By : Track → ℕ → Device → Type 0
    By u b D = Quickly C w (all_written D) (written_of D).dll clear bytes t from u b
