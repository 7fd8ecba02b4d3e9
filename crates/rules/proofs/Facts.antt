-- The numeric facts that the agreement rests on, for every header that opening takes and every allowed code.
-- Assumes nothing.
use Prim.Native.Nat.{ℕ, ◌+◌, ◌*◌, ◌/◌, ◌%◌, ◌≤◌, ◌<◌}
use native.Mathlib.Nat.{add-mul}
use native.Mathlib.Omega.{arith}
use mathlib.Core.Path.{◌≡◌, refl}
use mathlib.Core.Bool.{Bool, true, false, cond}
use lib.Dec.{eqb, leb, ltb}
use borrow.Author.Tests.{eqb-true, leb-true, ltb-true}
use Rattle.laws.proofs.Both.{both}
use Rattle.units.specs.Round.{up, down}
use Rattle.units.proofs.Rounding.{up_least, up-mono, up_more, down-greatest}
use Rattle.header.specs.declared.Header.{Header}
use Rattle.header.specs.Bins.{Bin, bin_of}
use Rattle.header.proofs.Bounds.{by-bin}
use Rattle.codes.specs.Codes.{cl, wr}
use Rattle.registers.specs.Allowed.{Span, span, span_of, cl_fits, allowed}
use Rattle.registers.proofs.Facts.{allowed0}
use Rattle.chip.specs.declared.Chip.{Chip}
use Rattle.chip.specs.declared.Regs.{Regs}
use Rattle.chip.specs.Chip.{chip_of}
use Rattle.chip.specs.Latencies.{cl_of, cwl_of, wr_of, b_of}

-- registers that hold allowed codes
pub record Fit (C : Chip) (g : Regs) : Type 0 where
  pub fit0 : allowed C.header 0 g.mr0 ≡ true
  pub fit1 : allowed C.header 1 g.mr1 ≡ true
  pub fit2 : allowed C.header 2 g.mr2 ≡ true

pub record Sound (C : Chip) : Type 0 where
  -- rule 4: t_rcd is some clocks and at most t_rc, so a later ACT asks for no earlier edge
  pub rcd-least : 1 ≤ C.trcd
  pub rcd-rc : C.trcd ≤ C.trc
  -- rule 5: t_rp is some clocks, so a start that has them is not ahead
  pub rp-least : 1 ≤ C.trp
  -- rule 26: a RD before an MRS that has its clocks has its own
  pub mod-least : 3 ≤ C.tmod
  -- rule 25: the interval is some clocks
  pub refi-least : 1 ≤ C.trefi
  -- rules 11 and 14: a write's recovery is over by the start that a read after it gives, and t_wtr by t_wr
  pub wr-wtr : C.twr ≤ C.twtr + C.trtp
  pub wtr-wr : C.twtr ≤ C.twr
  -- rule 10: a read's AL + t_rtp is over before rule 19 lets an MRS come
  pub rtp-cl : (g : Regs) → Fit C g → C.trtp ≤ cl_of g + 2
  -- rule 11: the programmed recovery is at least tWR's clocks
  pub wr-wrp : (g : Regs) → Fit C g → C.twr ≤ wr_of g
  -- rules 13, 19: reads of eight and of four differ by 2, and CWL is at least 2
  pub cwl-least : (g : Regs) → Fit C g → 2 ≤ cwl_of g
  pub b-least : (g : Regs) (a : ℕ) → Fit C g → 2 ≤ b_of g a
  pub b-most : (g : Regs) (a : ℕ) → Fit C g → b_of g a ≤ 4

-- ── CL against the period ───────────────────────────────────────────────────────────────────

abbrev Slow : ℕ → ℕ → Type 0
Slow n p = (4 ≤ n + 2) × (7500 ≤ (n + 2) * p)

-- one row of 01's list, or the rows after it
one-row :
    (n k p : ℕ) (s t : Span) → (n ≡ k → s.from ≤ p → Slow n p) → (t.from ≤ p → p < t.under → Slow n p)
    → (x : Bool) → eqb n k ≡ x → (cond x s t).from ≤ p → p < (cond x s t).under → Slow n p
one-row n k p s t f g true e l m = f (eqb-true n k e) l
one-row n k p s t f g false e l m = g l m

slow-cl : (n p : ℕ) → (span_of n).from ≤ p → p < (span_of n).under → Slow n p
unfolding span_of
slow-cl n p =
    one-row n 5 p (span 3000 3301 0 2) _ (λ e l. rw e (omega arith))
    (one-row n 6 p (span 2500 3301 0 3) _ (λ e l. rw e (omega arith))
    (one-row n 7 p (span 1875 2500 0 3) _ (λ e l. rw e (omega arith))
    (one-row n 8 p (span 1875 2500 0 3) _ (λ e l. rw e (omega arith))
    (one-row n 9 p (span 1500 1875 1 3) _ (λ e l. rw e (omega arith))
    (one-row n 10 p (span 1500 1875 1 3) _ (λ e l. rw e (omega arith))
    (one-row n 11 p (span 1250 1500 2 3) _ (λ e l. rw e (omega arith))
    (one-row n 12 p (span 1070 1250 3 3) _ (λ e l. rw e (omega arith)) (λ l m. absurd (omega arith)) (eqb n 12) refl)
    (eqb n 11) refl) (eqb n 10) refl) (eqb n 9) refl) (eqb n 8) refl) (eqb n 7) refl) (eqb n 6) refl) (eqb n 5) refl

pub burst-bounds : (g : Regs) (a : ℕ) → (2 ≤ b_of g a) × (b_of g a ≤ 4)
unfolding b_of
burst-bounds g a = go (eqb (g.mr0 / 1 % 4) 0) (eqb (g.mr0 / 1 % 4) 1) (eqb (a / 4096 % 2) 1)
  where
    go : (x y z : Bool) → (2 ≤ cond x 4 (cond y (cond z 4 2) 2)) × (cond x 4 (cond y (cond z 4 2) 2) ≤ 4)
    go true y z = omega arith
    go false true true = omega arith
    go false true false = omega arith
    go false false z = omega arith

-- ── Every header ────────────────────────────────────────────────────────────────────────────

-- the core times of every bin
record Core (b : Bin) : Type 0 where
  some : 12840 ≤ b.t_rcd
  order : b.t_rcd ≤ b.t_rc

core : (b : ℕ) → Core (bin_of b)
core = by-bin Core (omega arith) (omega arith) (omega arith) (omega arith)

module _ (h : Header) (least : 1070 ≤ h.period.ps) (most : h.period.ps ≤ 3300) where
  mr0-allowed : (c : ℕ) → allowed h 0 c ≡ true → (cl_fits h (cl c) ≡ true) × (up 15000 h.period.ps ≤ wr c)
  mr0-allowed c y = let w = allowed0 h c y in (w.0, leb-true _ _ w.1)

  fits-slow : (n : ℕ) → cl_fits h n ≡ true → Slow n h.period.ps
  unfolding cl_fits
  fits-slow n y =
      let a = both (leb (span_of n).from h.period.ps) _ y in
      let b = both (ltb h.period.ps (span_of n).under) _ a.1 in
      slow-cl n h.period.ps (leb-true _ _ a.0) (ltb-true _ _ b.0)

  interval : (x : Bool) → 1 ≤ down (cond x 3900000 7800000) h.period.ps
  interval true = (down-greatest 3900000 h.period.ps (omega arith)).greatest 1 (omega arith)
  interval false = (down-greatest 7800000 h.period.ps (omega arith)).greatest 1 (omega arith)

  pub sound : Sound (chip_of h)
  unfolding chip_of
  sound =
      let p = h.period.ps in
      let pos : 0 < h.period.ps = omega arith in
      let t = core h.bin in
      let half = up_least 7500 p pos in
      record {
        rcd-least = up_more (bin_of h.bin).t_rcd p 1 pos (omega (arith, t.some));
        rcd-rc = up-mono (bin_of h.bin).t_rcd (bin_of h.bin).t_rc p pos t.order;
        rp-least = up_more (bin_of h.bin).t_rcd p 1 pos (omega (arith, t.some));
        mod-least = omega arith;
        refi-least = interval h.hot;
        wr-wtr = omega (arith, (up_least 15000 p pos).least (up 7500 p + up 7500 p) (omega (arith, half.not-shorter, add-mul (up 7500 p) (up 7500 p) p)));
        wtr-wr = omega (arith, up-mono 7500 15000 p pos (omega arith), up_more 15000 p 4 pos (omega arith));
        rtp-cl = λ g f. let w = fits-slow (cl g.mr0) (mr0-allowed g.mr0 f.fit0).0 in omega (arith, half.least (cl g.mr0 + 2) w.1, w.0);
        wr-wrp = λ g f. (mr0-allowed g.mr0 f.fit0).1;
        cwl-least = λ g f. omega arith;
        b-least = λ g a f. (burst-bounds g a).0;
        b-most = λ g a f. (burst-bounds g a).1;
      }
