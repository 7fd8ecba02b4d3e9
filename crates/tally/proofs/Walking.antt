-- A walk over the records knows of each what looking back over the recording says, as long as no number passes 64 bits.
-- Assumes nothing.
use Rattle.std.proofs.Common.{◌≡◌, ℕ, ◌+◌, ◌<◌, Bool, true, false, cond, ltb, List, [], ◌∷◌, refl, ap, arith}
use mathlib.Core.List.{reverse_aux}
use Rattle.records.specs.declared.Record.{Record}
use Rattle.rules.specs.Past.{Past, number, edge, asleep, latest}
use Rattle.tally.specs.declared.Reached.{Reached}
use Rattle.tally.specs.Kinds.{kind_at}
use Rattle.tally.specs.Walk.{start, wrapped, next_of, found_of, reached_of, event_of}

-- no number of the recording p passes 64 bits
pub record Small (p : Past) : Type 0 where
  pub count : number p < 18446744073709551616
  pub last : edge p < 18446744073709551616

small-tail : (r : Record) (p : Past) → Small (r ∷ p) → Small p
small-tail r p h = record { count = omega (arith, h.count); last = omega (arith, h.last) }

small-start : (rs : List Record) (p : Past) → Small (reverse_aux rs p) → Small p
small-start [] p h = h
small-start (r ∷ rs) p h = small-tail r p (small-start rs (r ∷ p) h)

pub keeps : (n : ℕ) → n < 18446744073709551616 → wrapped n ≡ n
keeps n h = omega arith

module _ (t : ℕ) where
  pub start_is : start t ≡ reached_of t []
  unfolding asleep
  start_is = refl

  module _ (r : Record) (p : Past) (h : Small (r ∷ p)) where
    -- the records before the edge t
    number_by : (b : Bool) (s q : Past) → cond b (number s) (number q) ≡ number (cond b s q)
    number_by true s q = refl
    number_by false s q = refl

    pub next-is : next_of (reached_of t p) r ≡ reached_of t (r ∷ p)
    unfolding next_of asleep
    next-is =
        rw (keeps (number p + 1) h.count, keeps (edge p + r.step) h.last)
        (ap (λ (n : ℕ). record { number = number (r ∷ p); edge = edge (r ∷ p); level = r.cke; sleeps = asleep (r ∷ p); limit = t; before = n })
        (number_by (ltb (edge (r ∷ p)) t) (r ∷ p) (latest (λ s. ltb (edge s) t) p)))

    pub found-is : found_of (reached_of t p) r ≡ event_of t r p
    unfolding found_of kind_at
    found-is = rw next-is

  -- records in turn
  abbrev pub walk : Reached → List Record → Reached
  walk s [] = s
  walk s (r ∷ rs) = walk (next_of s r) rs

  pub walk_is : (rs : List Record) (p : Past) → Small (reverse_aux rs p) → walk (reached_of t p) rs ≡ reached_of t (reverse_aux rs p)
  walk_is [] p h = refl
  walk_is (r ∷ rs) p h = rw (next-is r p (small-start rs (r ∷ p) h)) (walk_is rs (r ∷ p) h)
