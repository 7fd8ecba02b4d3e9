-- Precharge starts: of one bank they do not decrease, so the greatest start is that of the latest closing event.
-- Assumes nothing.
use Prim.Native.Nat.{ℕ, ◌+◌, ◌-◌, ◌≤◌, ◌<◌, max}
use native.Mathlib.Omega.{arith}
use mathlib.Core.Path.{◌≡◌, refl}
use mathlib.Core.Logic.{⊎_elim}
use mathlib.Core.Bool.{Bool, true, false, cond, ◌||◌}
use mathlib.Core.List.{[], ◌∷◌, tail}
use lib.Dec.{leb}
use borrow.Author.Tests.{leb-true, le-leb}
use Rattle.answers.specs.declared.Break.TheVariants.{Fine}
use Rattle.records.specs.declared.Record.{Record}
use Rattle.records.specs.declared.Command.TheVariants.{Pre, Rd, Wr}
use Rattle.chip.specs.declared.Chip.{Chip}
use Rattle.rules.specs.Past.{Past, edge, number, is, bank_of, ◌∈◌, here, there, latest, greatest}
use Rattle.rules.specs.Registers.{al, cwl, h, wr}
use Rattle.rules.specs.Banks.{act_on, closes, touches, not_closing, start, seen}
use Rattle.rules.specs.Rules.{since}
use Rattle.rules.proofs.Generic.{decide, short-fine}
use Rattle.rules.proofs.Events.{never, event-some, latest-is, latest-edge, greatest-is}
use Rattle.rules.proofs.Clean.{Clean, is-other, calm, clean-tail, clean-in}

pub closes-touches : (b : ℕ) (s : Past) → closes b s ≡ true → touches b s ≡ true
closes-touches b s y = go (act_on b s) (closes b s) y
  where
    go : (x z : Bool) → z ≡ true → x || z ≡ true
    go true z e = refl
    go false z e = e

module _ (C : Chip) where
  pub start-pre : (s : Past) → is Pre s ≡ true → start C s ≡ edge s
  unfolding start
  start-pre [] y = refl
  start-pre (r ∷ p) y = rw y

  pub start-rd : (s : Past) → is Rd s ≡ true → edge s + al s + C.trtp ≤ start C s
  unfolding start
  start-rd [] y = never y refl
  start-rd (r ∷ p) y = rw (is-other Rd Pre (r ∷ p) (λ e. omega arith) y, y) (omega arith)

  pub start-wr : (s : Past) → is Wr s ≡ true → start C s ≡ edge s + (al s + cwl s) + h s + wr s
  unfolding start
  start-wr [] y = never y refl
  start-wr (r ∷ p) y = rw (is-other Wr Pre (r ∷ p) (λ e. omega arith) y, is-other Wr Rd (r ∷ p) (λ e. omega arith) y)

  pub start_none : start C [] ≡ 0
  unfolding start
  start_none = refl

  -- where the greatest start of a kind has its clocks, so has every start of it
  pub since-kept : (kind : Past → Bool) (e : ℕ) (p : Past) → since C e (greatest kind (start C) p) ≡ Fine
      → (s : Past) → s ∈ p → kind s ≡ true → C.trp ≤ e - start C s
  since-kept kind e p h s i y = ⊎_elim
      (λ w. never y (w.1 s i))
      (λ w. omega (arith, enough (greatest kind (start C) p) w.event h, w.most s i y))
      (greatest-is kind (start C) start_none p)
    where
      enough : (g : Past) → g ∈ p → since C e g ≡ Fine → C.trp ≤ e - start C g
      enough [] j z = absurd (omega (arith, event-some j))
      enough (q ∷ g) j z = (short-fine 5 e (start C (q ∷ g)) (number (q ∷ g)) C.trp Fine z).0

  -- a precharge starts at its event or later
  pub start-after : (s : Past) → edge s ≤ start C s
  unfolding start
  start-after [] = omega arith
  start-after (r ∷ p) = go (is Pre (r ∷ p)) (is Rd (r ∷ p))
    where
      go : (x y : Bool) → edge (r ∷ p) ≤ cond x (edge (r ∷ p)) (cond y
          (max (edge (latest (act_on (bank_of (r ∷ p))) p) + C.tras) (edge (r ∷ p) + al (r ∷ p) + C.trtp))
          (edge (r ∷ p) + (al (r ∷ p) + cwl (r ∷ p)) + h (r ∷ p) + wr (r ∷ p)))
      go true y = omega arith
      go false true = omega arith
      go false false = omega arith

  -- the edge from which a bank's latest event holds: the start of a closing event, the edge of an ACT
  abbrev pub reach : ℕ → Past → ℕ
  reach b s = cond (closes b s) (start C s) (edge s)

  pub reach-after : (b : ℕ) (s : Past) → edge s ≤ reach b s
  reach-after b s = ⊎_elim
      (λ (y : closes b s ≡ true). rw y (start-after s))
      (λ (n : closes b s ≡ false). rw n (omega arith))
      (decide (closes b s))

  pub reach-closes : (b : ℕ) (s : Past) → closes b s ≡ true → reach b s ≡ start C s
  reach-closes b s y = rw y

  -- a bank that is not closing at t has its event's edge by t
  seen-calm : (b : ℕ) (s : Past) (t : ℕ) → edge s ≤ t → not_closing (seen C b s t) ≡ true → reach b s ≤ t
  unfolding seen
  seen-calm b [] t l hyp = omega arith
  seen-calm b (r ∷ p) t l hyp = ⊎_elim
      (λ (y : closes b (r ∷ p) ≡ true). rw y (⊎_elim
      (λ (u : leb (start C (r ∷ p)) t ≡ true). leb-true _ _ u)
      (λ (u : leb (start C (r ∷ p)) t ≡ false). never (rw (y, u) at hyp) refl)
      (decide (leb (start C (r ∷ p)) t))))
      (λ (n : closes b (r ∷ p) ≡ false). rw n l)
      (decide (closes b (r ∷ p)))

  module _ (b : ℕ) (small : b < 8) where
    pub reach_step : (r : Record) (q : Past) → Clean C (r ∷ q) → touches b (r ∷ q) ≡ true → reach b (latest (touches b) q) ≤ edge (r ∷ q)
    reach_step r q hyp y = seen-calm b (latest (touches b) q) (edge (r ∷ q)) (omega (arith, latest-edge (touches b) q)) (calm C r q hyp b small y)

    -- no ACT or closing event of the bank reaches past the latest
    pub reach-le : {t : Past} (p : Past) → Clean C p → t ∈ p → touches b t ≡ true → reach b t ≤ reach b (latest (touches b) p)
    reach-le {t = t} [] hyp x3 y = elim x3 [ ]
    reach-le (r ∷ q) hyp here y = rw y (omega arith)
    reach-le {t} (r ∷ q) hyp (there i) y = ⊎_elim
        (λ (z : touches b (r ∷ q) ≡ true). rw z (omega (arith, reach-le q (clean-tail C r q hyp) i y, reach_step r q hyp z, reach-after b (r ∷ q))))
        (λ (n : touches b (r ∷ q) ≡ false). rw n (reach-le q (clean-tail C r q hyp) i y))
        (decide (touches b (r ∷ q)))

    -- of one bank, starts do not decrease
    pub starts : (p s t : Past) → Clean C p → s ∈ p → t ∈ tail s → closes b s ≡ true → closes b t ≡ true → start C t ≤ start C s
    starts p [] t hyp i j y z = elim j [ ]
    starts p (r ∷ q) t hyp i j y z =
        let c : Clean C (r ∷ q) = clean-in C i hyp in
        let a : reach b t ≤ reach b (latest (touches b) q) = reach-le q (clean-tail C r q c) j (closes-touches b t z) in
        omega (arith, reach_step r q c (closes-touches b (r ∷ q) y), reach-closes b t z, start-after (r ∷ q))

    start-below : (r : Record) (q : Past) → Clean C (r ∷ q) → closes b (r ∷ q) ≡ true → start C (latest (closes b) q) ≤ start C (r ∷ q)
    start-below r q hyp y = ⊎_elim
        (λ (n : latest (closes b) q ≡ []). rw n (rw start_none (omega arith)))
        (λ w. starts (r ∷ q) (r ∷ q) (latest (closes b) q) hyp here w.0 y w.1)
        (latest-is (closes b) q)

    -- so the greatest start is that of the latest closing event
    pub greatest-latest : (p : Past) → Clean C p → greatest (closes b) (start C) p ≡ latest (closes b) p
    greatest-latest [] hyp = refl
    greatest-latest (r ∷ q) hyp = ⊎_elim
        (λ (y : closes b (r ∷ q) ≡ true). rw (y, greatest-latest q (clean-tail C r q hyp), le-leb _ _ (start-below r q hyp y)))
        (λ (n : closes b (r ∷ q) ≡ false). rw n (greatest-latest q (clean-tail C r q hyp)))
        (decide (closes b (r ∷ q)))
