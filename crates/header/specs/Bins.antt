-- The four bins: 01's table of "Clock counts", all in ps.
-- Assumes nothing.
use Rattle.std.specs.Prelude.{ℕ, cond, eqb, ltb}

-- a row of the table: the least period, and eight times. t_rp is t_rcd
pub record Bin : Type 0 where
  pub least : ℕ
  pub t_rcd : ℕ
  pub t_rc : ℕ
  pub t_ras : ℕ
  pub t_rrd_1k : ℕ
  pub t_rrd_2k : ℕ
  pub t_faw_1k : ℕ
  pub t_faw_2k : ℕ
  pub t_cke : ℕ

-- 1066
abbrev pub bin0 : Bin
bin0 = record { least = 1875; t_rcd = 13125; t_rc = 50625; t_ras = 37500; t_rrd_1k = 7500; t_rrd_2k = 10000; t_faw_1k = 37500; t_faw_2k = 50000; t_cke = 5625 }

-- 1333
abbrev pub bin1 : Bin
bin1 = record { least = 1500; t_rcd = 13125; t_rc = 49500; t_ras = 36000; t_rrd_1k = 6000; t_rrd_2k = 7500; t_faw_1k = 30000; t_faw_2k = 45000; t_cke = 5625 }

-- 1600
abbrev pub bin2 : Bin
bin2 = record { least = 1250; t_rcd = 13125; t_rc = 48750; t_ras = 35000; t_rrd_1k = 6000; t_rrd_2k = 7500; t_faw_1k = 30000; t_faw_2k = 40000; t_cke = 5000 }

-- 1866
abbrev pub bin3 : Bin
bin3 = record { least = 1070; t_rcd = 12840; t_rc = 47080; t_ras = 34240; t_rrd_1k = 5000; t_rrd_2k = 6000; t_faw_1k = 27000; t_faw_2k = 35000; t_cke = 5000 }

-- the row of a bin; a made-up bin above 3 is answered as bin 0
unfoldable pub bin_of : ℕ → Bin
bin_of b = cond (eqb b 1) bin1 (cond (eqb b 2) bin2 (cond (eqb b 3) bin3 bin0))

-- the eight times of a row by their place in it
abbrev pub time_at : ℕ → Bin → ℕ
time_at c b =
    cond (eqb c 0) b.t_rcd (cond (eqb c 1) b.t_rc (cond (eqb c 2) b.t_ras (cond (eqb c 3) b.t_rrd_1k
    (cond (eqb c 4) b.t_rrd_2k (cond (eqb c 5) b.t_faw_1k (cond (eqb c 6) b.t_faw_2k b.t_cke))))))

-- the row that a bin stands in, from 0
abbrev pub row_of : ℕ → ℕ
row_of b = cond (ltb b 4) b 0
