-- The walk and the search over words: each word is found behind those before it, as looking back has it.
-- Assumes nothing.
use Rattle.std.proofs.Common.{Some, None, ◌≡◌, ℕ, zero, suc, ◌+◌, ◌*◌, ◌<◌, ◌≤◌, List, [], ◌∷◌, map, length, get_or, take, refl, ap, arith, eq-eqb, ne_eqb}
use mathlib.Core.List.{reverse_aux}
use Rattle.records.specs.Record.{fields_of}
use Rattle.running.specs.Ranges.{limit}
use Rattle.rules.specs.Past.{Past, number, edge}
use Rattle.tally.specs.declared.Spot.{Spot}
use Rattle.tally.specs.declared.Placed.{Placed}
use Rattle.tally.specs.Walk.{wrapped, next_of, reached_of, event_of}
use Rattle.tally.specs.Places.{after_of, passed_of, placed_of, find_of}
use Rattle.tally.proofs.Walking.{Small, keeps, next-is, found-is}

-- a step has 24 bits
step-most : (w : ℕ) → (fields_of w).step < 16777216
unfolding fields_of
step-most w = omega arith

-- no edge of the recording p lies further than its records' steps reach
abbrev pub Reachable : Past → Type 0
Reachable p = edge p ≤ 16777216 * number p

module _ (w : ℕ) (p : Past) (e : Reachable p) where
  pub reachable-next : Reachable (fields_of w ∷ p)
  reachable-next = omega (arith, step-most w)

  small : number p < limit → Small (fields_of w ∷ p)
  small m = record { count = omega arith; last = omega (arith, reachable-next) }

pub reachable-all : (ws : List ℕ) (p : Past) → Reachable p → Reachable (reverse_aux (map fields_of ws) p)
reachable-all [] p e = e
reachable-all (w ∷ ws) p e = reachable-all ws (fields_of w ∷ p) (reachable-next w p e)

-- ── Words in turn ───────────────────────────────────────────────────────────────────────────

module _ (t f : ℕ) where
  -- behind the recording p, at a byte of file f
  abbrev pub spot_of : Past → (at : ℕ) → Spot
  spot_of p a = record { reached = reached_of t p; file = f; at = a }

  -- the record of the word w, behind the recording p
  abbrev pub found_at : Past → (at w : ℕ) → Placed
  found_at p a w = record { found = event_of t (fields_of w) p; file = f; at = a; word = w }

  module _ (w a : ℕ) (p : Past) (e : Reachable p) (m : number p < limit) where
    after_is : a + 6 < 18446744073709551616 → after_of (spot_of p a) (fields_of w) ≡ spot_of (fields_of w ∷ p) (a + 6)
    unfolding after_of
    after_is h = rw (next-is t (fields_of w) p (small w p e m), keeps (a + 6) h)

    placed-is : placed_of (spot_of p a) (fields_of w) w ≡ found_at p a w
    unfolding placed_of
    placed-is = rw (found-is t (fields_of w) p (small w p e m))

  -- the word behind i others
  pub find_at :
      (ws : List ℕ) (i a : ℕ) (p : Past) → Reachable p → number p + length ws ≤ limit → a + 6 * length ws < 18446744073709551616 → i < length ws
      → (n b : ℕ) → n ≡ number p + 1 + i → b ≡ a + 6 * i
      → find_of n (spot_of p a) ws ≡ Some (found_at (reverse_aux (take i (map fields_of ws)) p) b (get_or ws i 0))
  find_at [] i a p e m h l n b en eb = absurd (omega arith)
  find_at (w ∷ ws) zero a p e m h l n b en eb =
      let same : b ≡ a = omega arith in
      rw (eq-eqb (wrapped (number p + 1)) n (omega arith), same) (ap Some (placed-is w a p e (omega arith)))
  find_at (w ∷ ws) (suc i) a p e m h l n b en eb =
      rw (ne_eqb (wrapped (number p + 1)) n (λ x. omega arith), after_is w a p e (omega arith) (omega arith))
      (find_at ws i (a + 6) (fields_of w ∷ p) (reachable-next w p e) (omega arith) (omega arith) (omega arith) n b (omega arith) (omega arith))

  pub pass-is :
      (ws : List ℕ) (a : ℕ) (p : Past) → Reachable p → number p + length ws ≤ limit → a + 6 * length ws < 18446744073709551616
      → (b : ℕ) → b ≡ a + 6 * length ws → passed_of (spot_of p a) ws ≡ spot_of (reverse_aux (map fields_of ws) p) b
  pass-is [] a p e m h b eb = let same : b ≡ a = omega arith in rw same
  pass-is (w ∷ ws) a p e m h b eb =
      rw (after_is w a p e (omega arith) (omega arith))
      (pass-is ws (a + 6) (fields_of w ∷ p) (reachable-next w p e) (omega arith) (omega arith) b (omega arith))

-- a number behind all of them
pub find_none : (n : ℕ) (ws : List ℕ) (s : Spot) → s.reached.number + length ws < n → n < 18446744073709551616 → find_of n s ws ≡ None
unfolding after_of next_of
find_none n [] s h m = refl
find_none n (w ∷ ws) s h m =
    rw (ne_eqb (wrapped (s.reached.number + 1)) n (λ x. omega arith))
    (find_none n ws (after_of s (fields_of w)) (omega arith) m)
