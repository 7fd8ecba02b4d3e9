-- Bounds of the clock counts for every header, made-up ones too: what the sums of the layers above use.
-- Assumes nothing.
use Prim.Native.Nat.{ℕ, ◌+◌, ◌≤◌}
use native.Mathlib.Omega.{arith}
use mathlib.Core.Bool.{Bool, true, false, cond}
use lib.Dec.{eqb}
use Rattle.units.proofs.Rounding.{up-most, down-most}
use Rattle.header.specs.declared.Header.{Header}
use Rattle.header.specs.Bins.{Bin, bin0, bin1, bin2, bin3, bin_of, row_of}
use Rattle.header.specs.Counts.{row, t_rcd, t_rp, t_rc, t_ras, t_rrd, t_faw, t_cke, t_rtp, t_wtr, t_wr, t_mrd, t_mod, t_rfc, t_xs, zq_long, zq_short, most_ras, t_refi, t_xp, t_xpdll, nine_refi}

-- what holds of the four rows holds of the row of every bin
pub by-bin : (P : Bin → Type 0) → P bin0 → P bin1 → P bin2 → P bin3 → (b : ℕ) → P (bin_of b)
unfolding bin_of
by-bin P p0 p1 p2 p3 b = go (eqb b 1) (eqb b 2) (eqb b 3)
  where
    go : (x y z : Bool) → P (cond x bin1 (cond y bin2 (cond z bin3 bin0)))
    go true y z = p1
    go false true z = p2
    go false false true = p3
    go false false false = p0

-- the greatest time of each column
pub record Times (b : Bin) : Type 0 where
  pub rcd : b.t_rcd ≤ 13125
  pub rc : b.t_rc ≤ 50625
  pub ras : b.t_ras ≤ 37500
  pub rrd1 : b.t_rrd_1k ≤ 10000
  pub rrd2 : b.t_rrd_2k ≤ 10000
  pub faw1 : b.t_faw_1k ≤ 50000
  pub faw2 : b.t_faw_2k ≤ 50000
  pub cke : b.t_cke ≤ 5625

pub times : (b : ℕ) → Times (bin_of b)
times = by-bin Times (omega arith) (omega arith) (omega arith) (omega arith)

pub choice : (b : Bool) (x y m : ℕ) → x ≤ m → y ≤ m → cond b x y ≤ m
choice true x y m p q = p
choice false x y m p q = q

pub record Bounds (h : Header) : Type 0 where
  pub rcd : (t_rcd h).clocks ≤ 13125
  pub rp : (t_rp h).clocks ≤ 13125
  pub rc : (t_rc h).clocks ≤ 50625
  pub ras : (t_ras h).clocks ≤ 37500
  pub rrd : (t_rrd h).clocks ≤ 10000
  pub faw : (t_faw h).clocks ≤ 50000
  pub cke : (t_cke h).clocks ≤ 5625
  pub rtp : (t_rtp h).clocks ≤ 7500
  pub wtr : (t_wtr h).clocks ≤ 7500
  pub wr : (t_wr h).clocks ≤ 15000
  pub mrd : (t_mrd h).clocks ≤ 4
  pub wait : (t_mod h).clocks ≤ 15000
  pub rfc : (t_rfc h).clocks ≤ 160000
  pub xs : (t_xs h).clocks ≤ 170000
  pub long : (zq_long h).clocks ≤ 320000
  pub short : (zq_short h).clocks ≤ 80000
  pub most : (most_ras h).clocks ≤ 70000000
  pub refi : (t_refi h).clocks ≤ 7800000
  pub xp : (t_xp h).clocks ≤ 7500
  pub xpdll : (t_xpdll h).clocks ≤ 24000
  pub nine : (nine_refi h).clocks ≤ 70200000

pub bounds : (h : Header) → Bounds h
bounds h =
    let p = h.period.ps in
    let r = row h in
    let t = times h.bin in
    let rrd = choice h.wide r.t_rrd_2k r.t_rrd_1k 10000 t.rrd2 t.rrd1 in
    let faw = choice h.wide r.t_faw_2k r.t_faw_1k 50000 t.faw2 t.faw1 in
    let rfc = choice h.dense 160000 110000 160000 (omega arith) (omega arith) in
    let most = choice h.hot 35100000 70000000 70000000 (omega arith) (omega arith) in
    let refi = choice h.hot 3900000 7800000 7800000 (omega arith) (omega arith) in
    let xp = choice (eqb (row_of h.bin) 0) 7500 6000 7500 (omega arith) (omega arith) in
    record {
      rcd = omega (arith, up-most r.t_rcd p);
      rp = omega (arith, up-most r.t_rcd p);
      rc = omega (arith, up-most r.t_rc p);
      ras = omega (arith, up-most r.t_ras p);
      rrd = omega (arith, up-most (cond h.wide r.t_rrd_2k r.t_rrd_1k) p);
      faw = omega (arith, up-most (cond h.wide r.t_faw_2k r.t_faw_1k) p);
      cke = omega (arith, up-most r.t_cke p);
      rtp = omega (arith, up-most 7500 p);
      wtr = omega (arith, up-most 7500 p);
      wr = up-most 15000 p;
      mrd = omega arith;
      wait = omega (arith, up-most 15000 p);
      rfc = omega (arith, up-most (cond h.dense 160000 110000) p);
      xs = omega (arith, up-most (cond h.dense 160000 110000 + 10000) p);
      long = omega (arith, up-most 320000 p);
      short = omega (arith, up-most 80000 p);
      most = omega (arith, down-most (cond h.hot 35100000 70000000) p);
      refi = omega (arith, down-most (cond h.hot 3900000 7800000) p);
      xp = omega (arith, up-most (cond (eqb (row_of h.bin) 0) 7500 6000) p);
      xpdll = omega (arith, up-most 24000 p);
      nine = omega (arith, down-most (cond h.hot 3900000 7800000) p);
    }
