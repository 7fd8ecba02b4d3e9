-- The loop over a section's records that sees what stands in the way of a move: what remains leads to what the whole section gives.
-- Assumes nothing.
use mathlib.Core.Bool.{Bool, true, false, cond, not, ◌||◌, or_assoc, or-false}
use mathlib.Core.List.{List, [], ◌∷◌, map}
use mathlib.Core.Path.{◌≡◌, refl, sym}
use lib.Dec.{eqb}
use Rattle.records.specs.Record as old
use Rattle.wide.specs.declared.Wide.{Wide}
use Rattle.wide.specs.declared.Seen.{Seen}
use Rattle.wide.specs.Wide.{rank_of, has_spare, returns, cannot_return}
use Rattle.wide.specs.Seen.{seen_more, seen_of}

pub either : (b x y : Bool) → x || cond b true y ≡ (x || b) || y
either b true y = refl
either true false y = refl
either false false y = refl

pub one_more_lem : (s : Seen) (w : Wide) (ws : List Wide) → seen_of s (w ∷ ws) ≡ seen_of (seen_more s w) ws
unfolding seen_more rank_of
one_more_lem s w ws = λ i. record {
  zero = either (eqb w.step 0) s.zero (old.has_zero (map (rank_of false) ws)) i;
  spare = sym (or_assoc s.spare (not (eqb w.zero 0)) (has_spare ws)) i;
  stays = sym (or_assoc s.stays (not (returns w)) (cannot_return ws)) i;
}

pub no_more : (s : Seen) → seen_of s [] ≡ s
no_more s = λ i. record { zero = or-false s.zero i; spare = or-false s.spare i; stays = or-false s.stays i }
