-- In a clean past each event asks for as late an edge as any before it of its kind.
-- Assumes nothing.
use Prim.Native.Nat.{ℕ, ◌+◌, ◌-◌, ◌≤◌, ◌<◌, max}
use native.Mathlib.Omega.{arith}
use mathlib.Core.Path.{◌≡◌, refl, sym, ap, ◌∙◌}
use mathlib.Core.Logic.{⊎_elim}
use mathlib.Core.Bool.{Bool, true, false, cond, ◌&&◌, ◌||◌}
use mathlib.Core.List.{[], ◌∷◌}
use lib.Dec.{eqb}
use borrow.Author.Tests.{eqb-true, eq-eqb}
use Rattle.laws.specs.Among.{first, next}
use Rattle.laws.proofs.Both.{both}
use Rattle.records.specs.declared.Record.{Record}
use Rattle.records.specs.declared.Command.TheVariants.{Mrs, Act, Wr, Rd, Zq}
use Rattle.records.specs.Command.{a10, counts}
use Rattle.chip.specs.declared.Chip.{Chip}
use Rattle.chip.specs.Latencies.{al_of, cl_of, cwl_of, h_of}
use Rattle.rules.specs.Past.{Past, edge, is, bank_of, address_of, a10_of, column, any_command, ◌∈◌, here, there, latest}
use Rattle.rules.specs.Registers.{mrs_to, regs, al, cl, cwl, wl, rl, h, b, wr}
use Rattle.rules.specs.Banks.{act_on, touches, is_idle, start, status}
use Rattle.rules.specs.Rules.{covered, spacing, r6, r11, r12r, r12w, r14, r18, r19}
use Rattle.rules.proofs.Generic.{decide, edge-le, Dominated}
use Rattle.rules.proofs.Events.{never, unchanged-or, ∈-trans, part_same}
use Rattle.rules.proofs.Clean.{Clean, Spaced, is-other, is-command, ClosedBy, by-pre, by-rd, by-wr, closing-by, clean-tail, clean-spaced}
use Rattle.rules.proofs.Starts.{start-pre, start-rd, start-wr, start-after}
use Rattle.rules.proofs.Facts.{Fit, Sound}
use Rattle.rules.proofs.Fits.{idle-closed, active-not-idle, allowed-as, fit_at, fit-in}

-- the clocks that a record asks for, by the rule's number, as the rows say
module _ (C : Chip) where
  abbrev pub need4 : Past → ℕ
  need4 s = max (C.trcd - al s) 1

  abbrev pub need10 : Past → ℕ
  need10 s = al s + C.trtp

  abbrev pub need11 : Past → ℕ
  need11 s = wl s + h s + C.twr

  abbrev pub need13 : Past → ℕ
  need13 s = cl s + 2 + b s - cwl s

  abbrev pub need14 : Past → ℕ
  need14 s = cwl s + h s + C.twtr

  abbrev pub need18 : Past → ℕ
  need18 s = cond (a10_of s) C.zqlong C.zqshort

  abbrev pub need19 : Past → ℕ
  need19 s = rl s + b s

-- Events of a kind that are g clocks apart, and that have their most before the registers change: what they need is dominated,
-- if it is at most that, and no more than g apart under the same registers.
module _ (p : Past) (kind set : Past → Bool) (g : ℕ) (most need : Past → ℕ)
    (other : (s : Past) → kind s ≡ true → set s ≡ false)
    (apart : Spaced kind (λ _. kind) (λ _. g) p)
    (settled : Spaced set (λ _. kind) most p)
    (below : (s : Past) → s ∈ p → kind s ≡ true → need s ≤ most s)
    (steady : (s t : Past) → s ∈ p → t ∈ p → kind s ≡ true → kind t ≡ true → latest set s ≡ latest set t → need t ≤ need s + g) where
  pub dominated : Dominated edge kind need p
  dominated [] t i j y z = elim j [ ]
  dominated (r ∷ q) t i j y z = ⊎_elim
      (λ (e : latest set q ≡ latest set t).
      let n : set (r ∷ q) ≡ false = other (r ∷ q) y in
      omega (arith, apart (r ∷ q) t i j y z, steady (r ∷ q) t i (∈-trans j i) y z (rw n e)))
      (λ w. omega (arith, settled w.0 t (∈-trans w.1 i) w.2 w.3 z, below t (∈-trans j i) z, edge-le w.1))
      (unchanged-or set j)

-- what is dominated stays so for a part of the kind
pub dominated-part : (part kind : Past → Bool) (need : Past → ℕ) (p : Past) → ((s : Past) → part s ≡ true → kind s ≡ true)
    → Dominated edge kind need p → Dominated edge part need p
dominated-part part kind need p f d s t i j y z = d s t i j (f s y) (f t z)

-- with no MRS in between the registers are the same
pub regs_same : (s t : Past) → latest (is Mrs) s ≡ latest (is Mrs) t → regs s ≡ regs t
unfolding regs
regs_same s t e = λ i. record { mr0 = same 0 i; mr1 = same 1 i; mr2 = same 2 i; mr3 = same 3 i }
  where
    same : (n : ℕ) → address_of (latest (mrs_to n) s) ≡ address_of (latest (mrs_to n) t)
    same n = ap address_of (part_same (mrs_to n) (is Mrs) (λ u y. (both _ _ y).0) s t e)

rd-not-mrs : (s : Past) → is Rd s ≡ true → is Mrs s ≡ false
rd-not-mrs s hyp = is-other Rd Mrs s (λ e. omega arith) hyp

wr-not-mrs : (s : Past) → is Wr s ≡ true → is Mrs s ≡ false
wr-not-mrs s hyp = is-other Wr Mrs s (λ e. omega arith) hyp

rd-column : (s : Past) → is Rd s ≡ true → column s ≡ true
rd-column s y = rw y

wr-column : (s : Past) → is Wr s ≡ true → column s ≡ true
wr-column s y = rw (is-other Wr Rd s (λ e. omega arith) y, y)

-- ── A write before a register changes ───────────────────────────────────────────────────────

on-sym : (a b : ℕ) → eqb a b ≡ true → eqb b a ≡ true
on-sym a b hyp = eq-eqb b a (sym (eqb-true a b hyp))

or_map : (a x y : Bool) → (x ≡ true → y ≡ true) → a || x ≡ true → a || y ≡ true
or_map true x y f hyp = refl
or_map false x y f hyp = f hyp

pub and-true : {a b : Bool} → a ≡ true → b ≡ true → a && b ≡ true
and-true {b = b} x y = rw x y

pub bank-small : (s : Past) → bank_of s < 8
bank-small [] = omega arith
bank-small (r ∷ p) = omega arith

module _ (C : Chip) (S : Sound C) where
  abbrev Settled : Past → Type 0
  Settled p = Spaced (is Mrs) (λ _. is Wr) (need11 C) p

  -- a write on the bank that m closes has its clocks before the start of m
  closed_after : (r : Record) (q t : Past) → Clean C (r ∷ q) → Settled q → t ∈ q → is Wr t ≡ true → ClosedBy (bank_of t) (r ∷ q)
      → edge t + need11 C t ≤ start C (r ∷ q)
  closed_after r q t hyp f i y (by-pre a o) =
      let c : covered (r ∷ q) t ≡ true = or_map (a10 r) _ _ (on-sym (bank_of (r ∷ q)) (bank_of t)) o in
      omega (arith, clean-spaced C (spacing C r11) (search (first, next) depth 30) (r ∷ q) hyp (r ∷ q) t here i a (and-true y c), start-pre C (r ∷ q) a)
  closed_after r q t hyp f i y (by-rd a o) = ⊎_elim
      (λ (e : latest (is Mrs) q ≡ latest (is Mrs) t).
      let g : regs (r ∷ q) ≡ regs t = regs_same (r ∷ q) t (rw (rd-not-mrs (r ∷ q) a) e) in
      let k = clean-spaced C (spacing C r14) (search (first, next) depth 30) (r ∷ q) hyp (r ∷ q) t here i a y in
      let l : edge (r ∷ q) + al t + C.trtp ≤ start C (r ∷ q) = rw g at (start-rd C (r ∷ q) a) in
      omega (arith, S.wr-wtr))
      (λ w. omega (arith, f w.0 t w.1 w.2 w.3 y, edge-le w.1, start-after C (r ∷ q)))
      (unchanged-or (is Mrs) i)
  closed_after r q t hyp f i y (by-wr a o) = ⊎_elim
      (λ (e : latest (is Mrs) q ≡ latest (is Mrs) t).
      let g : regs (r ∷ q) ≡ regs t = regs_same (r ∷ q) t (rw (wr-not-mrs (r ∷ q) a) e) in
      let l : start C (r ∷ q) ≡ edge (r ∷ q) + (al t + cwl t) + h t + wr t = rw g at (start-wr C (r ∷ q) a) in
      omega (arith, S.wr-wrp (regs t) (fit-in C t q (clean-tail C r q hyp) i (wr-column t y)), edge-le i))
      (λ w. omega (arith, f w.0 t w.1 w.2 w.3 y, edge-le w.1, start-after C (r ∷ q)))
      (unchanged-or (is Mrs) i)

  -- at an edge at which its bank is idle a write has its clocks
  write_done : (q t : Past) → Clean C q → Settled q → t ∈ q → is Wr t ≡ true → (e : ℕ) → is_idle (status C (bank_of t) q e) ≡ true
      → edge t + need11 C t ≤ e
  write_done [] t hyp f x5 y e d = elim x5 [ ]
  write_done (r ∷ q) t hyp f here y e d = ⊎_elim
      (λ (z : touches (bank_of (r ∷ q)) (r ∷ q) ≡ true).
      let w = idle-closed C (bank_of (r ∷ q)) r q e (rw z at d) in
      omega (arith, start-wr C (r ∷ q) y, S.wr-wrp (regs (r ∷ q)) (fit_at C r q hyp (wr-column (r ∷ q) y))))
      (λ (n : touches (bank_of (r ∷ q)) (r ∷ q) ≡ false).
      active-not-idle C (bank_of (r ∷ q)) (latest (touches (bank_of (r ∷ q))) q) (edge (r ∷ q)) e
      (allowed-as C Wr r q hyp y (bank_of (r ∷ q)) (omega arith) (eq-eqb (bank_of (r ∷ q)) (bank_of (r ∷ q)) refl)) (rw n at d))
      (decide (touches (bank_of (r ∷ q)) (r ∷ q)))
  write_done (r ∷ q) t hyp f (there i) y e d =
      let f' : Settled q = λ m u a. f m u (there a) in
      ⊎_elim
      (λ (z : touches (bank_of t) (r ∷ q) ≡ true).
      let w = idle-closed C (bank_of t) r q e (rw z at d) in
      omega (arith, closed_after r q t hyp f' i y (closing-by (bank_of t) (r ∷ q) w.0)))
      (λ (n : touches (bank_of t) (r ∷ q) ≡ false). write_done q t (clean-tail C r q hyp) f' i y e (rw n at d))
      (decide (touches (bank_of t) (r ∷ q)))

  -- every write has its clocks before a later MRS
  pub settled : (p : Past) → Clean C p → Spaced (is Mrs) (λ _. is Wr) (need11 C) p
  settled [] hyp m t x5 j y z = elim x5 [ ]
  settled (r ∷ q) hyp m t here j y z =
      write_done q t (clean-tail C r q hyp) (settled q (clean-tail C r q hyp)) j z (edge (r ∷ q))
      (allowed-as C Mrs r q hyp y (bank_of t) (bank-small t) refl)
  settled (r ∷ q) hyp m t (there i) j y z = settled q (clean-tail C r q hyp) m t i j y z

  -- ── Dominated ─────────────────────────────────────────────────────────────────────────────

  module _ (p : Past) (hyp : Clean C p) where
    reads : Spaced (is Rd) (λ _. is Rd) (λ _. 4) p
    reads = clean-spaced C (spacing C r12r) (search (first, next) depth 30) p hyp

    writes : Spaced (is Wr) (λ _. is Wr) (λ _. 4) p
    writes = clean-spaced C (spacing C r12w) (search (first, next) depth 30) p hyp

    read-settled : Spaced (is Mrs) (λ _. is Rd) (need19 C) p
    read-settled m t i j y z = clean-spaced C (spacing C r19) (search (first, next) depth 30) p hyp m t i j (rw y) z

    read-fit : (s : Past) → s ∈ p → is Rd s ≡ true → Fit C (regs s)
    read-fit s i y = fit-in C s p hyp i (rd-column s y)

    pub dominated10 : Dominated edge (is Rd) (need10 C) p
    dominated10 = dominated p (is Rd) (is Mrs) 4 (need19 C) (need10 C) rd-not-mrs reads read-settled
        (λ s i y. let f = read-fit s i y in omega (arith, S.rtp-cl (regs s) f, S.b-least (regs s) (address_of s) f))
        (λ s t i j y z e. let g = regs_same s t e in omega (arith, ap al_of g))

    pub dominated13 : Dominated edge (is Rd) (need13 C) p
    dominated13 = dominated p (is Rd) (is Mrs) 4 (need19 C) (need13 C) rd-not-mrs reads read-settled
        (λ s i y. omega (arith, S.cwl-least (regs s) (read-fit s i y)))
        (λ s t i j y z e. let g = regs_same s t e in omega (arith, ap cl_of g, ap cwl_of g, S.b-most (regs t) (address_of t) (read-fit t j z), S.b-least (regs s) (address_of s) (read-fit s i y)))

    pub dominated19 : Dominated edge (is Rd) (need19 C) p
    dominated19 = dominated p (is Rd) (is Mrs) 4 (need19 C) (need19 C) rd-not-mrs reads read-settled
        (λ s i y. omega arith)
        (λ s t i j y z e. let g = regs_same s t e in omega (arith, ap al_of g, ap cl_of g, S.b-most (regs t) (address_of t) (read-fit t j z), S.b-least (regs s) (address_of s) (read-fit s i y)))

    pub dominated11 : Dominated edge (is Wr) (need11 C) p
    dominated11 = dominated p (is Wr) (is Mrs) 4 (need11 C) (need11 C) wr-not-mrs writes (settled p hyp)
        (λ s i y. omega arith)
        (λ s t i j y z e. let g = regs_same s t e in omega (arith, ap al_of g, ap cwl_of g, ap h_of g))

    pub dominated14 : Dominated edge (is Wr) (need14 C) p
    dominated14 = dominated p (is Wr) (is Mrs) 4 (need11 C) (need14 C) wr-not-mrs writes (settled p hyp)
        (λ s i y. omega (arith, S.wtr-wr))
        (λ s t i j y z e. let g = regs_same s t e in omega (arith, ap cwl_of g, ap h_of g))

    pub dominated4 : (b : ℕ) → Dominated edge (act_on b) (need4 C) p
    dominated4 b s t i j y z =
        let u = both (is Act s) _ y in
        let v = both (is Act t) _ z in
        let e : bank_of t ≡ bank_of s = eqb-true _ _ v.1 ∙ sym (eqb-true _ _ u.1) in
        let k = clean-spaced C (spacing C r6) (search (first, next) depth 30) p hyp s t i j u.0 (and-true v.0 (eq-eqb _ _ e)) in
        omega (arith, S.rcd-rc, S.rcd-least)

    pub dominated18 : Dominated edge (is Zq) (need18 C) p
    dominated18 (r ∷ q) t i j y z =
        let a : any_command (r ∷ q) ≡ true = ap counts (is-command Zq r q y) in
        omega (arith, clean-spaced C (spacing C r18) (search (first, next) depth 30) p hyp (r ∷ q) t i j a z)
    dominated18 [] t i j y z = never y refl
