-- What a clean past gives: every rule is kept at every event.
-- Assumes nothing.
use Prim.Native.Nat.{ℕ, zero, suc, ◌+◌, ◌-◌, ◌≤◌, ◌<◌}
use native.Mathlib.Omega.{arith}
use native.Mathlib.Decide.{ℕ_discrete}
use mathlib.Core.Path.{◌≡◌, refl, sym, ap, ◌∙◌, subst}
use mathlib.Core.Logic.{⊎_elim}
use mathlib.Core.Bool.{Bool, true, false, cond, ◌&&◌, ◌||◌}
use mathlib.Core.List.{List, [], ◌∷◌, tail}
use lib.Dec.{eqb}
use borrow.Author.Tests.{eqb-true, ne_eqb}
use Rattle.laws.specs.Among.{Among, first, next}
use Rattle.laws.proofs.Both.{both}
use Rattle.answers.specs.declared.Bank.{Bank}
use Rattle.answers.specs.declared.Bank.TheVariants.{Idle, Open, Closing}
use Rattle.answers.specs.declared.Break.{Break}
use Rattle.answers.specs.declared.Break.TheVariants.{Fine}
use Rattle.records.specs.declared.Record.{Record}
use Rattle.records.specs.declared.Command.{Command}
use Rattle.records.specs.declared.Command.TheVariants.{Mrs, Ref, Pre, Act, Wr, Rd, Zq, Nop, Des, Sre, Srx, Low, Bad, Pde, Pdx}
use Rattle.records.specs.Command.{rank, a10}
use Rattle.chip.specs.declared.Chip.{Chip}
use Rattle.rules.specs.Past.{Past, edge, command, is, a10_of, on, column, ◌∈◌, here, there}
use Rattle.answers.specs.Answer.{or_else, lowest}
use Rattle.rules.specs.Search.{asking, Spacing, row}
use Rattle.rules.specs.Banks.{closes, touches, is_idle, is_open, not_closing, status}
use Rattle.rules.specs.Rules.{may, concerns, barred, rule1, rule2, checks, break_at}
use Rattle.rules.proofs.Generic.{decide, broken-fine, fine-kept, edge-le}
use Rattle.rules.proofs.Events.{never, either, or_else-fine}

pub among-fine : {f : Record → Past → Break} {fs : List (Record → Past → Break)} (r : Record) (p : Past) → Among f fs → break_at fs r p ≡ Fine → f r p ≡ Fine
among-fine r p first h = (or_else-fine _ _ h).0
among-fine r p (next i) h = among-fine r p i (or_else-fine _ _ h).1

-- in p, from each event of the kind `from` to each later one of the kind `to` there are the clocks needed
abbrev pub Spaced : (to : Past → Bool) (from : Past → Past → Bool) (need : Past → ℕ) → Past → Type 0
Spaced to from need p = (m t : Past) → m ∈ p → t ∈ tail m → to m ≡ true → from m t ≡ true → edge t + need t ≤ edge m

pub lowest-fine : (f : ℕ → Break) (n b : ℕ) → lowest f n ≡ Fine → b < n → f b ≡ Fine
unfolding lowest
lowest-fine f zero b h l = absurd (omega arith)
lowest-fine f (suc n) b h l = elim (ℕ_discrete b n) [
  | yes q ↦ subst (λ x. f x ≡ Fine) (sym q) (or_else-fine _ _ h).1
  | no q ↦ lowest-fine f n b (or_else-fine _ _ h).0 (omega arith)
]

pub lowest-ext : (f g : ℕ → Break) (n : ℕ) → ((b : ℕ) → b < n → f b ≡ g b) → lowest f n ≡ lowest g n
unfolding lowest
lowest-ext f g zero h = refl
lowest-ext f g (suc n) h = rw (lowest-ext f g n (λ b l. h b (omega arith)), h n (omega arith))

not-barred : (c : Command) (x : Bool) (k : Bank) → barred c x k ≡ Fine → x ≡ true → may c k ≡ true
not-barred c true k h y = ⊎_elim
    (λ (t : may c k ≡ true). t)
    (λ (t : may c k ≡ false). absurd (broken-fine (rw t at h)))
    (decide (may c k))
not-barred c false k h y = never y refl

-- what the records of a past break, the earliest first
abbrev pub broken : Chip → Past → Break
broken C [] = Fine
broken C (r ∷ p) = or_else (broken C p) (break_at (checks C) r p)

abbrev pub Clean : Chip → Past → Type 0
Clean C p = broken C p ≡ Fine

module _ (C : Chip) where
  pub clean-tail : (r : Record) (p : Past) → Clean C (r ∷ p) → Clean C p
  clean-tail r p h = (or_else-fine _ _ h).0

  pub clean-now : (r : Record) (p : Past) → Clean C (r ∷ p) → break_at (checks C) r p ≡ Fine
  clean-now r p h = (or_else-fine _ _ h).1

  pub clean-in : {s p : Past} → s ∈ p → Clean C p → Clean C s
  clean-in here h = h
  clean-in (there {r = r} {p = p} i) h = clean-in i (clean-tail r p h)

  -- a rule of clocks is kept
  pub clean-spaced : (R : Spacing) → Among (row R) (checks C) → (p : Past) → Clean C p → Spaced R.to R.from R.need p
  clean-spaced R a p h [] t i j y z = elim j [ ]
  clean-spaced R a p h (r ∷ q) t i j y z =
      let k = fine-kept edge R.name (asking (R.from (r ∷ q)) R.need) (edge (r ∷ q)) q (rw y at (among-fine r q a (clean-now r q (clean-in i h)))) t j in
      let n : R.need t ≤ edge (r ∷ q) - edge t = rw z at k in
      let o = edge-le j in
      omega arith

  -- rule 1 is kept
  pub not-bad : (r : Record) (q : Past) → Clean C (r ∷ q) → is Bad (r ∷ q) ≡ false
  not-bad r q h = ⊎_elim
      (λ (y : is Bad (r ∷ q) ≡ true).
      let a : Among (rule1 C) (checks C) = first in
      absurd (broken-fine (rw y at (among-fine r q a (clean-now r q h)))))
      (λ (n : is Bad (r ∷ q) ≡ false). n)
      (decide (is Bad (r ∷ q)))

  -- rule 2 is kept
  pub allowed : (r : Record) (q : Past) → Clean C (r ∷ q) → (b : ℕ) → b < 8 → concerns (command (r ∷ q)) (a10 r) (on b (r ∷ q)) ≡ true
      → may (command (r ∷ q)) (status C b q (edge (r ∷ q))) ≡ true
  allowed r q h b l y =
      let a : Among (rule2 C) (checks C) = next first in
      not-barred (command (r ∷ q)) _ _ (lowest-fine _ 8 b (among-fine r q a (clean-now r q h)) l) y

-- ── Commands ────────────────────────────────────────────────────────────────────────────────

unrank : ℕ → Command
unrank n =
    cond (eqb n 0) Mrs (cond (eqb n 1) Ref (cond (eqb n 2) Pre (cond (eqb n 3) Act (cond (eqb n 4) Wr (cond (eqb n 5) Rd (cond (eqb n 6) Zq (cond (eqb n 7) Nop (cond (eqb n 8) Des (cond (eqb n 9) Sre (cond (eqb n 10) Srx (cond (eqb n 11) Low (cond (eqb n 12) Bad (cond (eqb n 13) Pde Pdx)))))))))))))

unrank-rank : (c : Command) → unrank (rank c) ≡ c
unfolding unrank
unrank-rank Mrs = refl
unrank-rank Ref = refl
unrank-rank Pre = refl
unrank-rank Act = refl
unrank-rank Wr = refl
unrank-rank Rd = refl
unrank-rank Zq = refl
unrank-rank Nop = refl
unrank-rank Des = refl
unrank-rank Sre = refl
unrank-rank Srx = refl
unrank-rank Low = refl
unrank-rank Bad = refl
unrank-rank Pde = refl
unrank-rank Pdx = refl

pub is-command : (c : Command) (r : Record) (p : Past) → is c (r ∷ p) ≡ true → command (r ∷ p) ≡ c
is-command c r p y = sym (unrank-rank (command (r ∷ p))) ∙ ap unrank (eqb-true _ _ y) ∙ unrank-rank c

-- an event of one command is of no other
pub is-other : (c d : Command) (s : Past) → (rank c ≡ rank d → ⊥) → is c s ≡ true → is d s ≡ false
is-other C D [] h y = refl
is-other C D (r ∷ p) h y = ne_eqb _ _ (λ e. h (sym (eqb-true _ _ y) ∙ e))

-- REF, MRS, ZQ or SRE, which want all banks idle
abbrev pub wants_all : Past → Bool
wants_all s = is Ref s || (is Mrs s || (is Zq s || is Sre s))

pub act-not-all : (s : Past) → is Act s ≡ true → wants_all s ≡ false
act-not-all s y =
    rw (
      is-other Act Ref s (λ z. omega arith) y,
      is-other Act Mrs s (λ z. omega arith) y,
      is-other Act Zq s (λ z. omega arith) y,
      is-other Act Sre s (λ z. omega arith) y,
    )

pub idle-calm : (k : Bank) → is_idle k ≡ true → not_closing k ≡ true
idle-calm Idle h = refl
idle-calm (Open a n w) h = refl
idle-calm (Closing a n w) h = h

pub active-calm : (k : Bank) → is_open k ≡ true → not_closing k ≡ true
active-calm Idle h = refl
active-calm (Open a n w) h = refl
active-calm (Closing a n w) h = h

-- a command that opens or closes a bank speaks of it, and is not allowed while it is closing
touched : (c : Command) (a o : Bool) (k : Bank) → (eqb (rank c) 3 && o || (eqb (rank c) 2 && (a || o) || (eqb (rank c) 5 || eqb (rank c) 4) && (a && o))) ≡ true
    → (concerns c a o ≡ true → may c k ≡ true) → not_closing k ≡ true
touched Act a true k y f = idle-calm k (f refl)
touched Act a false k y f = never y refl
touched Pre true o k y f = f refl
touched Pre false true k y f = f refl
touched Pre false false k y f = never y refl
touched Rd true true k y f = active-calm k (f refl)
touched Rd true false k y f = never y refl
touched Rd false o k y f = never y refl
touched Wr true true k y f = active-calm k (f refl)
touched Wr true false k y f = never y refl
touched Wr false o k y f = never y refl
touched Mrs a o k y f = never y refl
touched Ref a o k y f = never y refl
touched Zq a o k y f = never y refl
touched Sre a o k y f = never y refl
touched Srx a o k y f = never y refl
touched Nop a o k y f = never y refl
touched Des a o k y f = never y refl
touched Low a o k y f = never y refl
touched Bad a o k y f = never y refl
touched Pde a o k y f = never y refl
touched Pdx a o k y f = never y refl

pub calm : (C : Chip) (r : Record) (q : Past) → Clean C (r ∷ q) → (b : ℕ) → b < 8 → touches b (r ∷ q) ≡ true
    → not_closing (status C b q (edge (r ∷ q))) ≡ true
calm C r q h b l y = touched (command (r ∷ q)) (a10 r) (on b (r ∷ q)) _ y (allowed C r q h b l)

-- the ways to close a bank
pub data ClosedBy (b : ℕ) (s : Past) : Type 0 where
  by-pre : is Pre s ≡ true → a10_of s || on b s ≡ true → ClosedBy b s
  by-rd : is Rd s ≡ true → on b s ≡ true → ClosedBy b s
  by-wr : is Wr s ≡ true → on b s ≡ true → ClosedBy b s

pub closing-by : (b : ℕ) (s : Past) → closes b s ≡ true → ClosedBy b s
closing-by b s y = ⊎_elim
    (λ x. let w = both _ _ x in by-pre w.0 w.1)
    (λ x. let w = both (column s) _ x in
    let o = both (a10_of s) _ w.1 in
    ⊎_elim (λ u. by-rd u o.1) (λ u. by-wr u o.1) (either (is Rd s) _ w.0))
    (either (is Pre s && (a10_of s || on b s)) _ y)
