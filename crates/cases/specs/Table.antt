-- 01, "Examples (P: proved)": P1 to P12; of 02, Q-2, what no recording can show, and the least that breaks its rule; and the record of Q-7.
-- Assumes nothing.
use Rattle.std.specs.Prelude.{ℕ, true, false, List, [], ◌∷◌}
use Rattle.header.specs.declared.Header.{Header}
use Rattle.answers.specs.declared.Verdict.{Verdict}
use Rattle.answers.specs.Answer.{bytes6}
use Rattle.cases.specs.Case.{Case, counts, limit, burst, reads, permits, opens, judged, printed, widens}

-- "P1 bin 1, 1500, 1 Gb x8"
abbrev pub header_p1 : Header
header_p1 = record { bin = 1; dense = false; wide = false; hot = false; period = record { ps = 1500 } }

-- "P2 bin 3, 1070, 2 Gb x16"
abbrev pub header_p2 : Header
header_p2 = record { bin = 3; dense = true; wide = true; hot = false; period = record { ps = 1070 } }

-- P7 names no bin: it is said of each
abbrev pub header_p7 : (bin period : ℕ) → Header
header_p7 bin period = record { bin = bin; dense = false; wide = false; hot = false; period = record { ps = period } }

-- "P8 header 14 05 DC 00 00 00", and the records behind it
abbrev pub recorded : (bytes : List ℕ) → List ℕ
recorded bytes = bytes6 0x1405DC000000 bytes

-- "P8 .. records 000001820010, 000004830000, 000004810000, 000004800B50, 00000C9B0123, 0001F4AB0000, 000004930000"
abbrev pub first_five : (last : List ℕ) → List ℕ
first_five last = bytes6 0x000001820010 (bytes6 0x000004830000 (bytes6 0x000004810000 (bytes6 0x000004800B50 (bytes6 0x00000C9B0123 last))))

abbrev pub first_six : (last : List ℕ) → List ℕ
first_six last = first_five (bytes6 0x0001F4AB0000 last)

abbrev pub bytes_p8 : List ℕ
bytes_p8 = first_six (bytes6 0x000004930000 [])

-- "P9 last step 5"
abbrev pub bytes_p9 : List ℕ
bytes_p9 = first_six (bytes6 0x000005930000 [])

-- "P10 P9 then PRE after 4, ACT after 5 (both bank 3)"
abbrev pub bytes_p10 : List ℕ
bytes_p10 = first_six (bytes6 0x000005930000 (bytes6 0x000004930000 (bytes6 0x0000059B0000 [])))

-- "P12 P8's first five records"
abbrev pub bytes_p12 : List ℕ
bytes_p12 = first_five []

-- Q-2: P1's part and P2's, hot
abbrev pub hotter : Header → Header
hotter h = record { bin = h.bin; dense = h.dense; wide = h.wide; hot = true; period = h.period }

-- a REF at edge 1, and then nothing
abbrev pub bytes_q2 : List ℕ
bytes_q2 = bytes6 0x000001880000 []

-- "broken 10 7 6 529 5 4 (rule, record, partner, edge, needed, found)"
abbrev pub broken : (rule number partner edge needed found : ℕ) → Verdict
broken k n x e m f = record { outcome = 1; rule = k; number = n; partner = x; edge = e; needed = m; found = f }

-- "clean 7 530 (records, end edge)"
abbrev pub clean : (records edge : ℕ) → Verdict
clean n e = record { outcome = 0; rule = 0; number = n; partner = 0; edge = e; needed = 0; found = 0 }

unfoldable pub table : List Case
table =
    -- "P1 .. t_rcd 9, t_rp 9, t_rc 33, t_ras 24, t_rrd 4, t_faw 20, t_rtp 5, t_wr 10, t_rfc 74, t_mod 12, t_xs 80, t_refi 5200"
    counts header_p1 (9 ∷ 9 ∷ 33 ∷ 24 ∷ 4 ∷ 20 ∷ 5 ∷ 10 ∷ 74 ∷ 12 ∷ 80 ∷ 5200 ∷ [])
    -- "P2 .. 12, 12, 44, 32, 6, 33, 8, 15, 150, 15, 159, 7289"
    ∷ counts header_p2 (12 ∷ 12 ∷ 44 ∷ 32 ∷ 6 ∷ 33 ∷ 8 ∷ 15 ∷ 150 ∷ 15 ∷ 159 ∷ 7289 ∷ [])
    -- "P3 read eight from 5: 5 6 7 4 1 2 3 0; interleave 5 4 7 6 1 0 3 2"
    ∷ burst 8 5 0 0 (5 ∷ 6 ∷ 7 ∷ 4 ∷ 1 ∷ 2 ∷ 3 ∷ 0 ∷ [])
    ∷ burst 8 5 1 0 (5 ∷ 4 ∷ 7 ∷ 6 ∷ 1 ∷ 0 ∷ 3 ∷ 2 ∷ [])
    -- "P4 four from 6: read sequential 6 7 4 5, write 4 5 6 7"
    ∷ burst 4 6 0 0 (6 ∷ 7 ∷ 4 ∷ 5 ∷ [])
    ∷ burst 4 6 0 1 (4 ∷ 5 ∷ 6 ∷ 7 ∷ [])
    -- "P5 MR0 0B50 at P1: eight, sequential, CL 9, WR 10, DLL reset"
    ∷ reads header_p1 0 0x0B50 (0 ∷ 0 ∷ 9 ∷ 1 ∷ 10 ∷ 0 ∷ [])
    -- "P6 at P2, WR 14 is refused, 16 allowed": CL 12 with WR code 111, and 000
    ∷ permits header_p2 0 0x0E04 false
    ∷ permits header_p2 0 0x0004 true
    -- "P7 period 2500: CL 6 allowed, 7 not; 2499: the reverse": WR 8
    ∷ permits (header_p7 0 2500) 0 0x0820 true ∷ permits (header_p7 0 2500) 0 0x0830 false
    ∷ permits (header_p7 0 2499) 0 0x0820 false ∷ permits (header_p7 0 2499) 0 0x0830 true
    ∷ permits (header_p7 1 2500) 0 0x0820 true ∷ permits (header_p7 1 2500) 0 0x0830 false
    ∷ permits (header_p7 1 2499) 0 0x0820 false ∷ permits (header_p7 1 2499) 0 0x0830 true
    ∷ permits (header_p7 2 2500) 0 0x0820 true ∷ permits (header_p7 2 2500) 0 0x0830 false
    ∷ permits (header_p7 2 2499) 0 0x0820 false ∷ permits (header_p7 2 2499) 0 0x0830 true
    ∷ permits (header_p7 3 2500) 0 0x0820 true ∷ permits (header_p7 3 2500) 0 0x0830 false
    ∷ permits (header_p7 3 2499) 0 0x0820 false ∷ permits (header_p7 3 2499) 0 0x0830 true
    -- "P8 header 14 05 DC 00 00 00; .. broken 10 7 6 529 5 4"
    ∷ opens (recorded []) header_p1
    ∷ judged (recorded bytes_p8) 529 (broken 10 7 6 529 5 4)
    ∷ printed (recorded bytes_p8) "broken 10 7 6 529 5 4\n"
    -- "P9 .. clean 7 530"
    ∷ judged (recorded bytes_p9) 530 (clean 7 530)
    ∷ printed (recorded bytes_p9) "clean 7 530\n"
    -- "P10 .. broken 5 9 8 539 9 5"
    ∷ judged (recorded bytes_p10) 539 (broken 5 9 8 539 9 5)
    ∷ printed (recorded bytes_p10) "broken 5 9 8 539 9 5\n"
    -- "P11 at P1, no record: clean at end 46799, at 46800 broken by 25"
    ∷ judged (recorded []) 46799 (clean 0 46799)
    ∷ judged (recorded []) 46800 (broken 25 0 0 46800 8 9)
    -- "P12 P8's first five records: clean at end 46691, broken by 24 at 46692"
    ∷ judged (recorded bytes_p12) 46691 (clean 5 46691)
    ∷ judged (recorded bytes_p12) 46692 (broken 24 0 5 46692 46666 46667)
    -- Q-2: "a hot part has 35,100,000 ps, not 70,000,000", rounded down by itself: nine times tREFI's clocks are 32796 at 1070 ps
    ∷ limit header_p1 46666 ∷ limit (hotter header_p1) 23400 ∷ limit header_p2 65420 ∷ limit (hotter header_p2) 32803
    -- Q-2: "broken one edge past nine times tREFI's clocks", from the last REF; from edge 0 25 is broken one edge before
    ∷ judged (recorded bytes_q2) 46801 (clean 1 46801)
    ∷ judged (recorded bytes_q2) 46802 (broken 31 0 1 46802 46800 46801)
    -- Q-7: "Record 00000C9B0123 becomes 00000CD360246000"
    ∷ widens (bytes6 0x00000C9B0123 []) (0x00 ∷ 0x00 ∷ 0x0C ∷ 0xD3 ∷ 0x60 ∷ 0x24 ∷ 0x60 ∷ 0x00 ∷ [])
    ∷ []
