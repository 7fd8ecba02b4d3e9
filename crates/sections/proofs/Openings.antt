-- A header that opening takes: the state it hands out, and the numeric facts of its chip.
-- Assumes nothing.
use Prim.Native.Nat.{ℕ, ◌/◌, ◌≤◌}
use native.Mathlib.Omega.{arith}
use native.Mathlib.Decide.{ℕ_discrete}
use mathlib.Core.Path.{◌≡◌, refl, ap, subst}
use mathlib.Core.Bool.{Bool, true, false, cond, ◌&&◌, ◌||◌}
use mathlib.Core.List.{List}
use mathlib.Core.Logic.{◌⊎◌, inl, inr}
use lib.Dec.{eqb, ltb}
use lib.ListN.{length, get_or}
use borrow.Author.Tests.{ltb-false, eqb-true, eq-eqb, ne_eqb}
use Rattle.header.specs.declared.Header.{Header}
use Rattle.std.specs.Prelude.{Ok, Err}
use Rattle.refusals.specs.Refusals.{refusal_of}
use Rattle.refusals.proofs.Answers.{never_0}
use Rattle.header.specs.Bins.{bin_of}
use Rattle.header.specs.Bytes.{header_word, header_of, edition_for, edition, bin, period, zero_a, zero_b, fields_refusal, header_refusal, parsed_of}
use Rattle.header.proofs.Bounds.{by-bin}
use Rattle.chip.specs.Chip.{chip_of}
use Rattle.judge.specs.Calls.{start_of, opened_by, open_of}
use Rattle.rules.proofs.Facts.{Sound, sound}
use Rattle.sections.specs.Sections.{Opens}

-- the period of a header that is not refused
in-period : (a w : ℕ) → fields_refusal a w ≡ 0 → (1070 ≤ period w) × (period w ≤ 3300)
unfolding fields_refusal
in-period a w h =
    go (eqb (edition w) a) (eqb (zero_a w) 0 && eqb (zero_b w) 0) (ltb (period w) (bin_of (bin w)).least) refl (ltb 3300 (period w)) refl h
  where
    least : 1070 ≤ (bin_of (bin w)).least
    least = by-bin (λ b. 1070 ≤ b.least) (omega arith) (omega arith) (omega arith) (omega arith) (bin w)

    go :
        (x y z : Bool) → ltb (period w) (bin_of (bin w)).least ≡ z → (v : Bool) → ltb 3300 (period w) ≡ v
        → ◌≡◌ {A = ℕ} (cond x (cond y (cond (z || v) 4 0) 3) 2) 0 → (1070 ≤ period w) × (period w ≤ 3300)
    go false y z p v q e = absurd (omega arith)
    go true false z p v q e = absurd (omega arith)
    go true true true p v q e = absurd (omega arith)
    go true true false p true q e = absurd (omega arith)
    go true true false p false q e = (omega (arith, ltb-false (period w) (bin_of (bin w)).least p, least), omega (arith, ltb-false 3300 (period w) q))

module _ (a : ℕ) (bytes : List ℕ) where
  fields-taken : header_refusal a bytes ≡ 0 → fields_refusal a (header_word bytes) ≡ 0
  unfolding header_refusal
  fields-taken h = go (eqb (length bytes) 6) h
    where
      go : (x : Bool) → cond x (fields_refusal a (header_word bytes)) 1 ≡ 0 → fields_refusal a (header_word bytes) ≡ 0
      go true e = e
      go false e = absurd (omega arith)

  pub least-period : header_refusal a bytes ≡ 0 → 1070 ≤ (header_of (header_word bytes)).period.ps
  least-period h = (in-period a (header_word bytes) (fields-taken h)).0

  pub taken_is : (h : Header) → parsed_of a bytes ≡ Ok h → (header_refusal a bytes ≡ 0) × (header_of (header_word bytes) ≡ h)
  unfolding parsed_of
  taken_is h e = go (eqb (header_refusal a bytes) 0) refl e
    where
      go :
          (x : Bool) → eqb (header_refusal a bytes) 0 ≡ x → cond x (Ok (header_of (header_word bytes))) (Err (refusal_of (header_refusal a bytes))) ≡ Ok h
          → (header_refusal a bytes ≡ 0) × (header_of (header_word bytes) ≡ h)
      go true q e = (eqb-true _ _ q, cc)
      go false q e = let z : ◌≡◌ {A = ℕ} 0 1 = cc in absurd (omega arith)

  taken-period : (h : Header) → parsed_of a bytes ≡ Ok h → (1070 ≤ h.period.ps) × (h.period.ps ≤ 3300)
  taken-period h e =
      let w = taken_is h e in
      subst (λ (x : Header). (1070 ≤ x.period.ps) × (x.period.ps ≤ 3300)) w.1 (in-period a (header_word bytes) (fields-taken w.0))

  pub taken-sound : (h : Header) → parsed_of a bytes ≡ Ok h → Sound (chip_of h)
  taken-sound h e = let w = taken-period h e in sound h w.0 w.1

-- ── Opening asks for the edition that the first four bits name ──────────────────────────────

pub either-edition : (bytes : List ℕ) → (edition_for bytes ≡ 1) ⊎ (edition_for bytes ≡ 2)
unfolding edition_for
either-edition bytes = go (eqb (get_or bytes 0 0 / 16) 2)
  where
    go : (x : Bool) → (◌≡◌ {A = ℕ} (cond x 2 1) 1) ⊎ (◌≡◌ {A = ℕ} (cond x 2 1) 2)
    go true = inr refl
    go false = inl refl

-- opening takes a header, or refuses it
pub opened-state : (bytes : List ℕ) (h : Header) → Opens bytes h → open_of bytes ≡ record { refused = 0; state = start_of h (edition_for bytes) }
unfolding open_of
opened-state bytes h e = ap (opened_by (edition_for bytes)) e

pub opened-header : (bytes : List ℕ) → (open_of bytes).refused ≡ 0 → (h : Header) × Opens bytes h
unfolding open_of parsed_of
opened-header bytes z = let r = header_refusal (edition_for bytes) bytes in elim (ℕ_discrete r 0) [
  | yes q ↦ (header_of (header_word bytes), rw (eq-eqb r 0 q))
  | no q ↦ absurd (never_0 (refusal_of r) (rw (ne_eqb r 0 q) at z))
]
