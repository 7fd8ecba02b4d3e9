-- The clock counts of a header: 01, "Clock counts", below its table.
-- Assumes nothing.
use Rattle.std.specs.Prelude.{ℕ, ◌+◌, ◌*◌, max, cond, eqb}
use Rattle.units.specs.declared.Ps.{Ps}
use Rattle.units.specs.declared.Clocks.{Clocks}
use Rattle.units.specs.Round.{up_of, down_of}
use Rattle.header.specs.declared.Header.{Header}
use Rattle.header.specs.Bins.{Bin, bin_of, row_of}

abbrev pub ps : ℕ → Ps
ps t = record { ps = t }

abbrev pub clocks : ℕ → Clocks
clocks n = record { clocks = n }

-- "A least time T becomes T / period rounded up"
abbrev pub least : Header → (time : ℕ) → Clocks
least h t = up_of (ps t) h.period

-- ", at least n clocks"
abbrev pub least_or : Header → (time n : ℕ) → Clocks
least_or h t n = clocks (max n (least h t).clocks)

-- "a greatest time rounds down"
abbrev pub greatest : Header → (time : ℕ) → Clocks
greatest h t = down_of (ps t) h.period

-- the header's row of the table
abbrev pub row : Header → Bin
row h = bin_of h.bin

abbrev pub t_rcd : Header → Clocks
t_rcd h = least h (row h).t_rcd

abbrev pub t_rp : Header → Clocks
t_rp h = least h (row h).t_rcd

abbrev pub t_rc : Header → Clocks
t_rc h = least h (row h).t_rc

abbrev pub t_ras : Header → Clocks
t_ras h = least h (row h).t_ras

-- "x8 has the 1K page, x16 the 2K page"; "t_rrd is at least 4 clocks, t_cke at least 3"
abbrev pub t_rrd : Header → Clocks
t_rrd h = least_or h (cond h.wide (row h).t_rrd_2k (row h).t_rrd_1k) 4

abbrev pub t_faw : Header → Clocks
t_faw h = least h (cond h.wide (row h).t_faw_2k (row h).t_faw_1k)

abbrev pub t_cke : Header → Clocks
t_cke h = least_or h (row h).t_cke 3

-- "t_rtp and t_wtr: 7500, at least 4. t_wr 15000. t_mrd 4 clocks. t_mod 15000, at least 12."
abbrev pub t_rtp : Header → Clocks
t_rtp h = least_or h 7500 4

abbrev pub t_wtr : Header → Clocks
t_wtr h = least_or h 7500 4

abbrev pub t_wr : Header → Clocks
t_wr h = least h 15000

abbrev pub t_mrd : Header → Clocks
t_mrd h = clocks 4

abbrev pub t_mod : Header → Clocks
t_mod h = least_or h 15000 12

-- "t_rfc 110000 (1 Gb) or 160000 (2 Gb). t_xs: t_rfc + 10000, at least 5."
abbrev pub refresh : Header → ℕ
refresh h = cond h.dense 160000 110000

abbrev pub t_rfc : Header → Clocks
t_rfc h = least h (refresh h)

abbrev pub t_xs : Header → Clocks
t_xs h = least_or h (refresh h + 10000) 5

-- "ZQ long 320000, at least 256; short 80000, at least 64."
abbrev pub zq_long : Header → Clocks
zq_long h = least_or h 320000 256

abbrev pub zq_short : Header → Clocks
zq_short h = least_or h 80000 64

-- "Greatest t_ras 70,000,000. t_refi 7,800,000, hot 3,900,000, rounded down."; Q-2: "a hot part has 35,100,000 ps, not 70,000,000"
abbrev pub most_ras : Header → Clocks
most_ras h = greatest h (cond h.hot 35100000 70000000)

abbrev pub t_refi : Header → Clocks
t_refi h = greatest h (cond h.hot 3900000 7800000)

-- Q-1: "exit to any command t_xp (7500 ps in bin 0, 6000 otherwise, at least 3 clocks)", "exit to RD 24000 ps, at least 10 clocks"
abbrev pub t_xp : Header → Clocks
t_xp h = least_or h (cond (eqb (row_of h.bin) 0) 7500 6000) 3

abbrev pub t_xpdll : Header → Clocks
t_xpdll h = least_or h 24000 10

-- Q-1: "greatest stay nine times tREFI's clocks"; Q-2: "broken one edge past nine times tREFI's clocks"
abbrev pub nine_refi : Header → Clocks
nine_refi h = clocks (9 * (t_refi h).clocks)
