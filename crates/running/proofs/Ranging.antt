-- The clock counts of a header are small.
-- Assumes nothing.
use Prim.Native.Nat.{◌≤◌}
use native.Mathlib.Omega.{arith}
use mathlib.Core.Bool.{true}
use mathlib.Core.Path.{◌≡◌}
use borrow.Author.Tests.{leb-true, le-leb}
use Rattle.laws.proofs.Both.{both}
use Rattle.header.specs.declared.Header.{Header}
use Rattle.header.specs.Counts.{t_refi}
use Rattle.header.proofs.Bounds.{bounds}
use Rattle.chip.specs.declared.Chip.{Chip}
use Rattle.chip.specs.Chip.{chip_of}
use Rattle.running.specs.Ranges.{is_small, Small}

pub small : (h : Header) → 1 ≤ (t_refi h).clocks → Small (chip_of h)
unfolding chip_of
small h l =
    let b = bounds h in
    record {
      trcd = omega (arith, b.rcd);
      trp = omega (arith, b.rp);
      tras = omega (arith, b.ras);
      tcke = omega (arith, b.cke);
      trtp = omega (arith, b.rtp);
      twtr = omega (arith, b.wtr);
      twr = omega (arith, b.wr);
      most = b.most;
      trefi = omega (arith, b.refi);
      nine = omega (arith, b.nine);
      some = l;
    }

-- the test and the facts
pub small-tested : (C : Chip) → is_small C ≡ true → Small C
unfolding is_small
small-tested C h =
    let a = both _ _ h in
    let b = both _ _ a.1 in
    let c = both _ _ b.1 in
    let d = both _ _ c.1 in
    let e = both _ _ d.1 in
    let f = both _ _ e.1 in
    let g = both _ _ f.1 in
    let i = both _ _ g.1 in
    let j = both _ _ i.1 in
    let k = both _ _ j.1 in
    record {
      trcd = leb-true _ _ a.0;
      trp = leb-true _ _ b.0;
      tras = leb-true _ _ c.0;
      tcke = leb-true _ _ d.0;
      trtp = leb-true _ _ e.0;
      twtr = leb-true _ _ f.0;
      twr = leb-true _ _ g.0;
      most = leb-true _ _ i.0;
      trefi = leb-true _ _ j.0;
      nine = leb-true _ _ k.0;
      some = leb-true _ _ k.1;
    }

pub small-test : (C : Chip) → Small C → is_small C ≡ true
unfolding is_small
small-test C s = rw (
  le-leb C.trcd 70000000 s.trcd,
  le-leb C.trp 70000000 s.trp,
  le-leb C.tras 70000000 s.tras,
  le-leb C.tcke 70000000 s.tcke,
  le-leb C.trtp 70000000 s.trtp,
  le-leb C.twtr 70000000 s.twtr,
  le-leb C.twr 70000000 s.twr,
  le-leb C.most 70000000 s.most,
  le-leb C.trefi 70000000 s.trefi,
  le-leb C.nine 80000000 s.nine,
  le-leb 1 C.trefi s.some,
)
