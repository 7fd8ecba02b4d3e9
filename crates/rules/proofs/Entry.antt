-- Rule 26: of the RDs the latest counts, of the WRs the latest of each bank, of the MRSs the latest; an older WR with auto precharge can break it
-- where a later one on another bank does not. And what is kept of them tells it.
-- Assumes nothing.
use Prim.Native.Nat.{ℕ, ◌+◌, ◌≤◌, ◌<◌}
use native.Mathlib.Omega.{arith}
use mathlib.Core.Path.{◌≡◌, refl, ap}
use mathlib.Core.Logic.{⊎_elim}
use mathlib.Core.Bool.{true, false, cond}
use mathlib.Core.List.{[], ◌∷◌, tail}
use Rattle.laws.specs.Among.{first, next}
use Rattle.laws.proofs.Both.{both}
use Rattle.records.specs.declared.Record.{Record}
use Rattle.records.specs.declared.Command.TheVariants.{Mrs, Pre, Wr, Rd}
use Rattle.chip.specs.declared.Chip.{Chip}
use Rattle.chip.specs.Latencies.{al_of, cl_of}
use Rattle.rules.specs.Past.{Past, edge, is, on, column, a10_of, address_of, ◌∈◌, latest}
use Rattle.rules.specs.Registers.{regs, wl, rl, h, b, wr}
use Rattle.rules.specs.Banks.{closes, touches, start}
use Rattle.rules.specs.Rules.{spacing, r19}
use Rattle.rules.proofs.Generic.{decide, edge-le, Dominated}
use Rattle.rules.proofs.Events.{never, ∈-trans, latest-edge, unchanged-or}
use Rattle.rules.proofs.Clean.{Clean, is-other, clean-tail, clean-in, clean-spaced}
use Rattle.rules.proofs.Starts.{closes-touches, start-wr, reach, reach-closes, reach_step, reach-le}
use Rattle.rules.proofs.Facts.{Sound, Fit}
use Rattle.rules.proofs.Fits.{active-open, allowed-as, fit-in}
use Rattle.rules.proofs.Dominate.{need11, regs_same, dominated11}
use Rattle.rules.proofs.Summary.{wr_on}

-- what a WR asks of an entry, and a RD
module _ (C : Chip) where
  abbrev pub after_read : Past → ℕ
  after_read s = rl s + 5

  abbrev pub after_write : Past → ℕ
  after_write s = cond (a10_of s) (wl s + h s + wr s + 1) (wl s + h s + C.twr)

rd-column : (s : Past) → is Rd s ≡ true → column s ≡ true
rd-column s y = rw y

wr-column : (s : Past) → is Wr s ≡ true → column s ≡ true
wr-column s y = rw (is-other Wr Rd s (λ e. omega arith) y, y)

-- a WR with auto precharge closes its bank
pub auto-closes : (b : ℕ) (s : Past) → wr_on b s ≡ true → a10_of s ≡ true → closes b s ≡ true
auto-closes b s y a =
    let w = both (is Wr s) (on b s) y in
    rw (is-other Wr Pre s (λ e. omega arith) w.0, is-other Wr Rd s (λ e. omega arith) w.0, w.0, a, w.1)

-- and one without does not
pub plain-open : (b : ℕ) (s : Past) → wr_on b s ≡ true → a10_of s ≡ false → closes b s ≡ false
plain-open b s y a =
    let w = both (is Wr s) (on b s) y in
    rw (is-other Wr Pre s (λ e. omega arith) w.0, is-other Wr Rd s (λ e. omega arith) w.0, w.0, a)

module _ (C : Chip) (S : Sound C) (p : Past) (hyp : Clean C p) where
  -- ── Dominated ─────────────────────────────────────────────────────────────────────────────

  -- every read has RL + b clocks before a later MRS
  pub read-settled : (m t : Past) → m ∈ p → t ∈ tail m → is Mrs m ≡ true → is Rd t ≡ true → edge t + (rl t + b t) ≤ edge m
  read-settled m t i j y z = clean-spaced C (spacing C r19) (search (first, next) depth 30) p hyp m t i j (rw y) z

  pub some-burst : (t : Past) → t ∈ p → is Rd t ≡ true → 2 ≤ b t
  some-burst t i z = S.b-least (regs t) (address_of t) (fit-in C t p hyp i (rd-column t z))

  pub dominated26r : Dominated edge (is Rd) (after_read C) p
  dominated26r (r ∷ q) t i j y z = ⊎_elim
      (λ (e : latest (is Mrs) q ≡ latest (is Mrs) t).
      let n : is Mrs (r ∷ q) ≡ false = is-other Rd Mrs (r ∷ q) (λ e. omega arith) y in
      let g = regs_same (r ∷ q) t (rw n e) in
      omega (arith, ap al_of g, ap cl_of g, edge-le j))
      (λ w. omega (arith, read-settled w.0 t (∈-trans w.1 i) w.2 w.3 z, some-burst t (∈-trans j i) z, edge-le w.1))
      (unchanged-or (is Mrs) j)
  dominated26r [] t i j y z = never y refl

  module _ (k : ℕ) (small : k < 8) where
    -- the start of a write with auto precharge on bank k is over when another event of the bank comes
    pub over-at : (r : Record) (q t : Past) → r ∷ q ∈ p → t ∈ q → closes k t ≡ true → touches k (r ∷ q) ≡ true → start C t ≤ edge (r ∷ q)
    over-at r q t i j y z =
        let c = clean-in C i hyp in
        omega (arith, reach-le C k small q (clean-tail C r q c) j (closes-touches k t y), reach_step C k small r q c z, reach-closes C k t y)

    pub auto-start : (t : Past) → wr_on k t ≡ true → a10_of t ≡ true → edge t + after_write C t ≡ start C t + 1
    auto-start t y a = rw a (let e = start-wr C t (both (is Wr t) (on k t) y).0 in omega arith)

    pub fits : (t : Past) → t ∈ p → wr_on k t ≡ true → Fit C (regs t)
    fits t i y = fit-in C t p hyp i (wr-column t (both (is Wr t) (on k t) y).0)

    -- at least what it asks of a PRE
    more-than-11 : (t : Past) → t ∈ p → wr_on k t ≡ true → need11 C t ≤ after_write C t
    more-than-11 t i y = ⊎_elim
        (λ (a : a10_of t ≡ true). rw a (omega (arith, S.wr-wrp (regs t) (fits t i y))))
        (λ (n : a10_of t ≡ false). rw n (omega arith))
        (decide (a10_of t))

    -- the bank of a later write had been opened again
    opened-again : (r : Record) (q t : Past) → r ∷ q ∈ p → t ∈ q → wr_on k (r ∷ q) ≡ true → closes k t ≡ true → start C t ≤ edge (r ∷ q)
    opened-again r q t i j y z =
        let c = clean-in C i hyp in
        let w = both (is Wr (r ∷ q)) (on k (r ∷ q)) y in
        let o = allowed-as C Wr r q c w.0 k small w.1 in
        let u = latest (touches k) q in
        let l = reach-le C k small q (clean-tail C r q c) j (closes-touches k t z) in
        let n : reach C k (latest (touches k) q) ≡ edge (latest (touches k) q) = rw (active-open C k (latest (touches k) q) (edge (r ∷ q)) o) in
        omega (arith, reach-closes C k t z, latest-edge (touches k) q)

    pub dominated26w : Dominated edge (wr_on k) (after_write C) p
    dominated26w (r ∷ q) t i j y z = ⊎_elim
        (λ (a : a10_of t ≡ true).
        omega (arith, auto-start t z a, opened-again r q t i j y (auto-closes k t z a), more-than-11 (r ∷ q) i y, S.cwl-least (regs (r ∷ q)) (fits (r ∷ q) i y)))
        (λ (n : a10_of t ≡ false).
        let u = both (is Wr (r ∷ q)) (on k (r ∷ q)) y in
        let v = both (is Wr t) (on k t) z in
        let plain : after_write C t ≡ need11 C t = rw n in
        omega (arith, dominated11 C S p hyp (r ∷ q) t i j u.0 v.0, more-than-11 (r ∷ q) i y))
        (decide (a10_of t))
    dominated26w [] t i j y z = never y refl
