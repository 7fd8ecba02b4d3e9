-- A header's clock counts as plain numbers.
-- Assumes nothing.
use Rattle.header.specs.declared.Header.{Header}
use Rattle.header.specs.Counts.{t_rcd, t_rp, t_rc, t_ras, t_rrd, t_faw, t_cke, t_rtp, t_wtr, t_wr, t_mod, t_rfc, t_xs, zq_long, zq_short, most_ras, t_refi, t_xp, t_xpdll, nine_refi}
use Rattle.chip.specs.declared.Chip.{Chip}

unfoldable pub chip_of : Header → Chip
chip_of h =
    record {
      header = h;
      trcd = (t_rcd h).clocks;
      trp = (t_rp h).clocks;
      trc = (t_rc h).clocks;
      tras = (t_ras h).clocks;
      trrd = (t_rrd h).clocks;
      tfaw = (t_faw h).clocks;
      tcke = (t_cke h).clocks;
      trtp = (t_rtp h).clocks;
      twtr = (t_wtr h).clocks;
      twr = (t_wr h).clocks;
      tmod = (t_mod h).clocks;
      trfc = (t_rfc h).clocks;
      txs = (t_xs h).clocks;
      zqlong = (zq_long h).clocks;
      zqshort = (zq_short h).clocks;
      most = (most_ras h).clocks;
      trefi = (t_refi h).clocks;
      txp = (t_xp h).clocks;
      txpdll = (t_xpdll h).clocks;
      nine = (nine_refi h).clocks;
    }
