-- In a clean past a read or write finds all registers written, with allowed codes.
-- Assumes nothing.
use Prim.Native.Nat.{ℕ, ◌≤◌, ◌<◌}
use native.Mathlib.Omega.{arith}
use mathlib.Core.Path.{◌≡◌, refl, sym, ap, ◌∙◌, subst}
use mathlib.Core.Logic.{⊎_elim}
use mathlib.Core.Bool.{Bool, true, false, ◌&&◌, ◌||◌}
use mathlib.Core.List.{[], ◌∷◌, tail}
use lib.Dec.{leb}
use borrow.Author.Tests.{leb-true, eqb-true, eq-eqb}
use Rattle.laws.specs.Among.{Among, first, next}
use Rattle.laws.proofs.Both.{both}
use Rattle.answers.specs.declared.Break.TheVariants.{Fine}
use Rattle.records.specs.declared.Record.{Record}
use Rattle.records.specs.declared.Command.{Command}
use Rattle.records.specs.declared.Command.TheVariants.{Mrs, Act, Wr, Rd}
use Rattle.records.specs.Command.{a10}
use Rattle.registers.specs.Allowed.{allowed as allowed_code}
use Rattle.chip.specs.declared.Chip.{Chip}
use Rattle.rules.specs.Past.{Past, edge, command, is, bank_of, address_of, on, column, ◌∈◌, here, there, latest, has}
use Rattle.rules.specs.Registers.{mrs_to, regs}
use Rattle.rules.specs.Banks.{act_on, closes, touches, is_idle, is_open, start, seen, status}
use Rattle.rules.specs.Rules.{may, concerns, demand, rule3, checks}
use Rattle.rules.proofs.Generic.{decide, broken-fine}
use Rattle.rules.proofs.Events.{never, either, latest-is}
use Rattle.rules.proofs.Clean.{Clean, among-fine, is-other, is-command, allowed, clean-tail, clean-now, clean-in}
use Rattle.rules.proofs.Facts.{Fit}

pub has_in : (k : Past → Bool) {s p : Past} → s ∈ p → has k (tail s) ≡ true → has k p ≡ true
has_in k (here {r = r} {p = p}) h = go (k (r ∷ p)) (has k p) h
  where
    go : (x y : Bool) → y ≡ true → x || y ≡ true
    go true y e = refl
    go false y e = e
has_in k (there {r = r} {p = p} i) h = go (k (r ∷ p)) (has k p) (has_in k i h)
  where
    go : (x y : Bool) → y ≡ true → x || y ≡ true
    go true y e = refl
    go false y e = e

demanded : (x : Bool) (f : ℕ) → demand x f ≡ Fine → x ≡ true
demanded true f h = refl
demanded false f h = absurd (broken-fine h)

module _ (C : Chip) where
  -- ── What a status says ────────────────────────────────────────────────────────────────────

  pub idle-closed : (b : ℕ) (r : Record) (p : Past) (t : ℕ) → is_idle (seen C b (r ∷ p) t) ≡ true → (closes b (r ∷ p) ≡ true) × (start C (r ∷ p) ≤ t)
  unfolding seen
  idle-closed b r p t h = ⊎_elim
      (λ (y : closes b (r ∷ p) ≡ true). (
        y,
        ⊎_elim
            (λ (u : leb (start C (r ∷ p)) t ≡ true). leb-true _ _ u)
            (λ (u : leb (start C (r ∷ p)) t ≡ false). never (rw (y, u) at h) refl)
            (decide (leb (start C (r ∷ p)) t)),
      ))
      (λ (n : closes b (r ∷ p) ≡ false). never (rw n at h) refl)
      (decide (closes b (r ∷ p)))

  pub active-open : (b : ℕ) (s : Past) (t : ℕ) → is_open (seen C b s t) ≡ true → closes b s ≡ false
  unfolding seen
  active-open b [] t x = never x refl
  active-open b (r ∷ p) t x = ⊎_elim
      (λ (c : closes b (r ∷ p) ≡ true). ⊎_elim
      (λ (v : leb (start C (r ∷ p)) t ≡ true). never (rw (c, v) at x) refl)
      (λ (v : leb (start C (r ∷ p)) t ≡ false). never (rw (c, v) at x) refl)
      (decide (leb (start C (r ∷ p)) t)))
      (λ (c : closes b (r ∷ p) ≡ false). c)
      (decide (closes b (r ∷ p)))

  -- an active bank does not become idle by itself
  pub active-not-idle {ℓ} : {A : Type ℓ} (b : ℕ) (s : Past) (t u : ℕ) → is_open (seen C b s t) ≡ true → is_idle (seen C b s u) ≡ true → A
  unfolding seen
  active-not-idle b [] t u x y = never x refl
  active-not-idle b (r ∷ p) t u x y = never (idle-closed b r p u y).0 (active-open b (r ∷ p) t x)

  -- rule 2 at an event of a known command
  pub allowed-as : (c : Command) (r : Record) (q : Past) → Clean C (r ∷ q) → is c (r ∷ q) ≡ true → (b : ℕ) → b < 8 → concerns c (a10 r) (on b (r ∷ q)) ≡ true
      → may c (status C b q (edge (r ∷ q))) ≡ true
  allowed-as c r q h y b l z =
      let e = is-command c r q y in
      let a : concerns (command (r ∷ q)) (a10 r) (on b (r ∷ q)) ≡ true = rw e z in
      ap (λ d. may d (status C b q (edge (r ∷ q)))) (sym e) ∙ allowed C r q h b l a

  -- a read or write finds its bank active
  pub column-active : (r : Record) (q : Past) → Clean C (r ∷ q) → column (r ∷ q) ≡ true → is_open (status C (bank_of (r ∷ q)) q (edge (r ∷ q))) ≡ true
  column-active r q h y =
      let o : on (bank_of (r ∷ q)) (r ∷ q) ≡ true = eq-eqb (bank_of (r ∷ q)) (bank_of (r ∷ q)) refl in
      ⊎_elim
      (λ u. allowed-as Rd r q h u (bank_of (r ∷ q)) (omega arith) o)
      (λ u. allowed-as Wr r q h u (bank_of (r ∷ q)) (omega arith) o)
      (either (is Rd (r ∷ q)) _ y)

  -- ── Registers ─────────────────────────────────────────────────────────────────────────────

  rule3-fine : (r : Record) (q : Past) → Clean C (r ∷ q) → rule3 C r q ≡ Fine
  rule3-fine r q h = let a : Among (rule3 C) (checks C) = next (next first) in among-fine r q a (clean-now C r q h)

  -- the code of an MRS is allowed
  pub mrs-allowed : (r : Record) (q : Past) → Clean C (r ∷ q) → is Mrs (r ∷ q) ≡ true → allowed_code C.header (bank_of (r ∷ q)) r.a ≡ true
  mrs-allowed r q h y = demanded _ _ (rw y at (rule3-fine r q h))

  -- a code that was written is allowed
  written-allowed : (n : ℕ) (p : Past) → Clean C p → has (mrs_to n) p ≡ true → allowed_code C.header n (address_of (latest (mrs_to n) p)) ≡ true
  written-allowed n [] h y = never y refl
  written-allowed n (r ∷ q) h y = ⊎_elim
      (λ (u : mrs_to n (r ∷ q) ≡ true).
      let w = both (is Mrs (r ∷ q)) _ u in
      rw u (subst (λ m. allowed_code C.header m r.a ≡ true) (eqb-true (bank_of (r ∷ q)) n w.1) (mrs-allowed r q h w.0)))
      (λ (u : mrs_to n (r ∷ q) ≡ false). rw u (written-allowed n q (clean-tail C r q h) (rw u at y)))
      (decide (mrs_to n (r ∷ q)))

  -- at an ACT they are all written
  act-written : (r : Record) (q : Past) → Clean C (r ∷ q) → is Act (r ∷ q) ≡ true
      → (has (mrs_to 0) q ≡ true) × (has (mrs_to 1) q ≡ true) × (has (mrs_to 2) q ≡ true)
  act-written r q h y =
      let a : demand (has (mrs_to 0) q && (has (mrs_to 1) q && (has (mrs_to 2) q && has (mrs_to 3) q))) 0 ≡ Fine =
      rw (is-other Act Mrs (r ∷ q) (λ e. omega arith) y, y) at (rule3-fine r q h) in
      let w = both _ _ (demanded _ 0 a) in
      let v = both _ _ w.1 in
      (w.0, v.0, (both _ _ v.1).0)

  -- an event of p that is an ACT
  acted : (p s : Past) → Clean C p → s ∈ p → is Act s ≡ true → (has (mrs_to 0) p ≡ true) × (has (mrs_to 1) p ≡ true) × (has (mrs_to 2) p ≡ true)
  acted p [] h i y = never y refl
  acted p (r ∷ q) h i y =
      let w = act-written r q (clean-in C i h) y in
      (has_in (mrs_to 0) i w.0, has_in (mrs_to 1) i w.1, has_in (mrs_to 2) i w.2)

  -- an active bank has an ACT
  active-act : (b : ℕ) (q : Past) (t : ℕ) → is_open (status C b q t) ≡ true → (s : Past) × (s ∈ q) × (is Act s ≡ true)
  unfolding seen
  active-act b q t k = ⊎_elim
      (λ (n : latest (touches b) q ≡ []). never (subst (λ s. is_open (seen C b s t) ≡ true) n k) refl)
      (λ w. ⊎_elim
      (λ u. (latest (touches b) q, w.0, (both _ _ u).0))
      (λ u. never u (active-open b (latest (touches b) q) t k))
      (either (act_on b (latest (touches b) q)) _ w.1))
      (latest-is (touches b) q)

  pub fit_at : (r : Record) (q : Past) → Clean C (r ∷ q) → column (r ∷ q) ≡ true → Fit C (regs (r ∷ q))
  unfolding regs
  fit_at r q h y =
      let a = active-act (bank_of (r ∷ q)) q (edge (r ∷ q)) (column-active r q h y) in
      let w = acted (r ∷ q) a.0 h (there a.1) a.2 in
      record {
        fit0 = written-allowed 0 (r ∷ q) h w.0;
        fit1 = written-allowed 1 (r ∷ q) h w.1;
        fit2 = written-allowed 2 (r ∷ q) h w.2;
      }

  -- the same of an event of a clean past
  pub fit-in : (s p : Past) → Clean C p → s ∈ p → column s ≡ true → Fit C (regs s)
  fit-in [] p h i y = never y refl
  fit-in (r ∷ q) p h i y = fit_at r q (clean-in C i h) y
