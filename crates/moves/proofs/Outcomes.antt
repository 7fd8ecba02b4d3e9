-- Of a check that was begun, and of any that holds a refusal, the outcome is the first check that fails.
-- Assumes nothing.
use Rattle.std.proofs.Common.{◌≡◌, ℕ, ◌/◌, ◌%◌, ◌<◌, Bool, true, false, cond, ◌||◌, ◌&&◌, eqb, ltb, List, [], ◌∷◌, length, Option, Some, None, refl, ap, ◌∙◌, eq-eqb, lt-ltb}
use borrow.Author.Tests.{eqb-true}
use Rattle.std.proofs.Math.Bool.{or-true}
use Rattle.laws.specs.Cuts.{run}
use Rattle.refusals.specs.declared.Refusal.{Refusal}
use Rattle.refusals.specs.Refusals.{number_of, number_if, refusal_of as named}
use Rattle.refusals.proofs.Answers.{number_told}
use Rattle.header.specs.Bytes.{header_refusal, fields_refusal, header_word, edition, zero_a, zero_b, period, bin}
use Rattle.header.specs.Bins.{bin_of}
use Rattle.wide.specs.declared.Seen.{Seen}
use Rattle.moves.specs.declared.Check.{Check}
use Rattle.moves.specs.Moves.{counted, seen_refusal}
use Rattle.moves.specs.Check.{begun_of, over_of, refusal_of, outcome_of}
use Rattle.moves.specs.Told.{is_told, told_of}

-- ── What a number tells ─────────────────────────────────────────────────────────────────────

pub number-tells : (r : Refusal) → number_of r < 65536 → is_told (number_of r) ≡ true
unfolding is_told
number-tells r small =
    rw (eq-eqb (number_of (named (number_of r))) (number_of r) (ap number_of (number_told r)), lt-ltb (number_of r) 65536 small) (or-true (eqb (number_of r) 0))

zero-tells : (n : ℕ) → n ≡ 0 → is_told n ≡ true
unfolding is_told
zero-tells n is = rw is refl

pub kept-tells : (refused : Option Refusal) → number_if refused < 65536 → is_told (number_if refused) ≡ true
unfolding is_told
kept-tells None small = refl
kept-tells (Some r) small = number-tells r small

header-tells : (e : ℕ) (hs : List ℕ) → is_told (header_refusal e hs) ≡ true
unfolding is_told header_refusal fields_refusal
header-tells e hs = go (eqb (length hs) 6) (eqb (edition w) e) (eqb (zero_a w) 0 && eqb (zero_b w) 0) (ltb (period w) (bin_of (bin w)).least || ltb 3300 (period w))
  where
    w : ℕ
    w = header_word hs

    go : (a b c d : Bool) → is_told (cond a (cond b (cond c (cond d 4 0) 3) 2) 1) ≡ true
    go true true true true = refl
    go true true true false = refl
    go true true false d = refl
    go true false c d = refl
    go false b c d = refl

seen-tells : (s : Seen) → is_told (seen_refusal s) ≡ true
unfolding is_told
seen-tells s = go s.zero s.spare s.stays
  where
    go : (x y z : Bool) → is_told (cond x 6 (cond y 14 (cond z 13 0))) ≡ true
    go true y z = refl
    go false true z = refl
    go false false true = refl
    go false false false = refl

behind-tells : (size n : ℕ) (s : Seen) → is_told (counted size n (seen_refusal s)) ≡ true
unfolding is_told
behind-tells size n s = go (eqb (n % size) 0) (ltb 1048576 (n / size))
  where
    go : (x y : Bool) → is_told (cond x (cond y 7 (seen_refusal s)) 5) ≡ true
    go true true = refl
    go true false = seen-tells s
    go false y = refl

-- ── The outcome ─────────────────────────────────────────────────────────────────────────────

-- of what is refused first, its number tells the outcome
pub outcome_told : (c : Check) → told_of (refusal_of c) ≡ outcome_of c
unfolding refusal_of
outcome_told c = go (eqb c.refused 0) refl (eqb c.edition 1)
  where
    behind : Bool → ℕ
    behind one = cond one (counted 6 c.bytes (seen_refusal c.seen)) (counted 8 c.bytes (seen_refusal c.seen))

    behind-is : (one : Bool) → is_told (behind one) ≡ true
    behind-is true = behind-tells 6 c.bytes c.seen
    behind-is false = behind-tells 8 c.bytes c.seen

    go : (x : Bool) → eqb c.refused 0 ≡ x → (one : Bool) → told_of (cond x (behind one) c.refused) ≡ cond (is_told c.refused) (cond x (behind one) c.refused) 17
    go true e one = rw (behind-is one, zero-tells c.refused (eqb-true c.refused 0 e)) refl
    go false e one = refl

-- a check that holds 0 or a refusal's number
pub outcome-is : (c : Check) → is_told c.refused ≡ true → outcome_of c ≡ refusal_of c
outcome-is c h = rw h refl

pub kept-outcome : (c : Check) (refused : Option Refusal) → c.refused ≡ number_if refused → number_if refused < 65536 → outcome_of c ≡ refusal_of c
kept-outcome c refused is small = outcome-is c (ap is_told is ∙ kept-tells refused small)

-- so one that was begun, whatever sections came
same-refused : (c : Check) (xss : List (List ℕ)) → (run over_of c xss).refused ≡ c.refused
unfolding over_of
same-refused c [] = refl
same-refused c (xs ∷ xss) = same-refused (over_of c xs) xss

pub begun-outcome : (e : ℕ) (hs : List ℕ) (xss : List (List ℕ)) → outcome_of (run over_of (begun_of e hs) xss) ≡ refusal_of (run over_of (begun_of e hs) xss)
unfolding begun_of
begun-outcome e hs xss = outcome-is _ (ap is_told (same-refused (begun_of e hs) xss) ∙ header-tells e hs)
