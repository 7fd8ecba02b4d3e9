-- Each count is its method's, and fits 32 bits by its bound.
-- Assumes nothing.
use native.Mathlib.Omega.{arith}
use mathlib.Core.Path.{ap, ◌∙◌}
use Rattle.units.specs.declared.Clocks.{Clocks}
use Rattle.header.proofs.Bounds.{bounds}
use Rattle.chip.specs.Chip.{chip_of}
use Rattle.chip.proofs.part.chip_of.Goals as goal

pub plain-requires : goal.plain-requires
plain-requires c = rw c.trcd.ensures (omega (arith, (bounds c.args.h).rcd))

pub plain-requires-2 : goal.plain-requires-2
plain-requires-2 c = rw c.trp.ensures (omega (arith, (bounds c.args.h).rp))

pub plain-requires-3 : goal.plain-requires-3
plain-requires-3 c = rw c.trc.ensures (omega (arith, (bounds c.args.h).rc))

pub plain-requires-4 : goal.plain-requires-4
plain-requires-4 c = rw c.tras.ensures (omega (arith, (bounds c.args.h).ras))

pub plain-requires-5 : goal.plain-requires-5
plain-requires-5 c = rw c.trrd.ensures (omega (arith, (bounds c.args.h).rrd))

pub plain-requires-6 : goal.plain-requires-6
plain-requires-6 c = rw c.tfaw.ensures (omega (arith, (bounds c.args.h).faw))

pub plain-requires-7 : goal.plain-requires-7
plain-requires-7 c = rw c.tcke.ensures (omega (arith, (bounds c.args.h).cke))

pub plain-requires-8 : goal.plain-requires-8
plain-requires-8 c = rw c.trtp.ensures (omega (arith, (bounds c.args.h).rtp))

pub plain-requires-9 : goal.plain-requires-9
plain-requires-9 c = rw c.twtr.ensures (omega (arith, (bounds c.args.h).wtr))

pub plain-requires-10 : goal.plain-requires-10
plain-requires-10 c = rw c.twr.ensures (omega (arith, (bounds c.args.h).wr))

pub plain-requires-11 : goal.plain-requires-11
plain-requires-11 c = rw c.tmod.ensures (omega (arith, (bounds c.args.h).wait))

pub plain-requires-12 : goal.plain-requires-12
plain-requires-12 c = rw c.trfc.ensures (omega (arith, (bounds c.args.h).rfc))

pub plain-requires-13 : goal.plain-requires-13
plain-requires-13 c = rw c.txs.ensures (omega (arith, (bounds c.args.h).xs))

pub plain-requires-14 : goal.plain-requires-14
plain-requires-14 c = rw c.zqlong.ensures (omega (arith, (bounds c.args.h).long))

pub plain-requires-15 : goal.plain-requires-15
plain-requires-15 c = rw c.zqshort.ensures (omega (arith, (bounds c.args.h).short))

pub plain-requires-16 : goal.plain-requires-16
plain-requires-16 c = rw c.mostras.ensures (omega (arith, (bounds c.args.h).most))

pub plain-requires-17 : goal.plain-requires-17
plain-requires-17 c = rw c.trefi.ensures (omega (arith, (bounds c.args.h).refi))

pub plain-requires-18 : goal.plain-requires-18
plain-requires-18 c = rw c.txp.ensures (omega (arith, (bounds c.args.h).xp))

pub plain-requires-19 : goal.plain-requires-19
plain-requires-19 c = rw c.txpdll.ensures (omega (arith, (bounds c.args.h).xpdll))

pub plain-requires-20 : goal.plain-requires-20
plain-requires-20 c = rw c.ninerefi.ensures (omega (arith, (bounds c.args.h).nine))

pub returns : goal.returns
unfolding chip_of
returns c =
    λ i. record {
      header = c.args.h;
      trcd = (c.plain.ensures ∙ ap (λ (x : Clocks). x.clocks) c.trcd.ensures) i;
      trp = (c.plain-2.ensures ∙ ap (λ (x : Clocks). x.clocks) c.trp.ensures) i;
      trc = (c.plain-3.ensures ∙ ap (λ (x : Clocks). x.clocks) c.trc.ensures) i;
      tras = (c.plain-4.ensures ∙ ap (λ (x : Clocks). x.clocks) c.tras.ensures) i;
      trrd = (c.plain-5.ensures ∙ ap (λ (x : Clocks). x.clocks) c.trrd.ensures) i;
      tfaw = (c.plain-6.ensures ∙ ap (λ (x : Clocks). x.clocks) c.tfaw.ensures) i;
      tcke = (c.plain-7.ensures ∙ ap (λ (x : Clocks). x.clocks) c.tcke.ensures) i;
      trtp = (c.plain-8.ensures ∙ ap (λ (x : Clocks). x.clocks) c.trtp.ensures) i;
      twtr = (c.plain-9.ensures ∙ ap (λ (x : Clocks). x.clocks) c.twtr.ensures) i;
      twr = (c.plain-10.ensures ∙ ap (λ (x : Clocks). x.clocks) c.twr.ensures) i;
      tmod = (c.plain-11.ensures ∙ ap (λ (x : Clocks). x.clocks) c.tmod.ensures) i;
      trfc = (c.plain-12.ensures ∙ ap (λ (x : Clocks). x.clocks) c.trfc.ensures) i;
      txs = (c.plain-13.ensures ∙ ap (λ (x : Clocks). x.clocks) c.txs.ensures) i;
      zqlong = (c.plain-14.ensures ∙ ap (λ (x : Clocks). x.clocks) c.zqlong.ensures) i;
      zqshort = (c.plain-15.ensures ∙ ap (λ (x : Clocks). x.clocks) c.zqshort.ensures) i;
      most = (c.plain-16.ensures ∙ ap (λ (x : Clocks). x.clocks) c.mostras.ensures) i;
      trefi = (c.plain-17.ensures ∙ ap (λ (x : Clocks). x.clocks) c.trefi.ensures) i;
      txp = (c.plain-18.ensures ∙ ap (λ (x : Clocks). x.clocks) c.txp.ensures) i;
      txpdll = (c.plain-19.ensures ∙ ap (λ (x : Clocks). x.clocks) c.txpdll.ensures) i;
      nine = (c.plain-20.ensures ∙ ap (λ (x : Clocks). x.clocks) c.ninerefi.ensures) i;
    }
