-- Checks 2, 3, 4 in their order.
-- Assumes nothing.
use Prim.Native.Nat.{ℕ, ◌≤◌}
use mathlib.Core.Path.{◌≡◌, ap}
use Rattle.header.specs.Bytes.{fields_of, fields_refusal, header_of, edition, zero_a, zero_b, bin, period}
use Rattle.header.specs.Bins.{bin_of}
use Rattle.header.specs.declared.Header.{Header}
use Rattle.std.specs.Prelude.{Ok}
use borrow.Author.Tests.{lt-ltb, le-ltb, eq-eqb, ne_eqb}
use native.Mathlib.Nat.{div-one}
use Rattle.header.proofs.opening.fields.Goals as goal

taken :
    (e w least : ℕ) (h : Header) → h ≡ header_of w → edition w ≡ e → zero_a w ≡ 0 → zero_b w ≡ 0
    → least ≡ (bin_of (bin w)).least → least ≤ period w → period w ≤ 3300 → Ok h ≡ fields_of e w
unfolding fields_of fields_refusal
taken e w least h is one a b l under over =
    rw (eq-eqb _ _ one, eq-eqb _ _ a, eq-eqb _ _ b, ← l, le-ltb _ _ under, le-ltb _ _ over) (ap Ok is)

pub returns-then-w-edition : goal.returns-then-w-edition
unfolding fields_of fields_refusal
returns-then-w-edition c = simp (ne_eqb _ _ c.if-w-edition.true)

pub returns-then-w-ne0 : goal.returns-then-w-ne0
unfolding fields_of fields_refusal
returns-then-w-ne0 c = simp (eq-eqb _ _ c.if-w-edition.false, ne_eqb _ _ c.if-w-ne0.true)

pub returns-then-w-ne0-2 : goal.returns-then-w-ne0-2
unfolding fields_of fields_refusal
returns-then-w-ne0-2 c = simp (div-one, eq-eqb _ _ c.if-w-edition.false, eq-eqb _ _ c.if-w-ne0.false, ne_eqb _ _ c.if-w-ne0-2.true)

pub returns-then-period-least : goal.returns-then-period-least
unfolding fields_of fields_refusal
returns-then-period-least c =
    simp (div-one, eq-eqb _ _ c.if-w-edition.false, eq-eqb _ _ c.if-w-ne0.false, eq-eqb _ _ c.if-w-ne0-2.false, ← c.least.ensures, lt-ltb _ _ c.if-period-least.true)

pub returns-then-period-gt3300 : goal.returns-then-period-gt3300
unfolding fields_of fields_refusal
returns-then-period-gt3300 c =
    simp (div-one, eq-eqb _ _ c.if-w-edition.false, eq-eqb _ _ c.if-w-ne0.false, eq-eqb _ _ c.if-w-ne0-2.false, ← c.least.ensures, le-ltb _ _ c.if-period-least.false, lt-ltb _ _ c.if-period-gt3300.true)

pub returns : goal.returns
returns c =
    taken _ _ _ _ c.header.ensures c.if-w-edition.false c.if-w-ne0.false (rw div-one c.if-w-ne0-2.false)
    c.least.ensures c.if-period-least.false c.if-period-gt3300.false
