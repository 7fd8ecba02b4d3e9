-- What a record leaves behind, as the loop does it: a place of an array raised, and the floor raised for all banks.
-- Assumes nothing.
use Rattle.std.specs.Prelude.{ℕ, ◌+◌, ◌%◌, max, Bool, cond, not, ◌&&◌, ◌||◌, List, [], ◌∷◌, eqb, leb, ltb, get_or, set}
use Rattle.records.specs.declared.Record.{Record}
use Rattle.records.specs.declared.Command.{Command}
use Rattle.records.specs.declared.Command.TheVariants.{Mrs, Ref, Pre, Act, Wr, Rd, Zq, Nop, Des, Sre, Srx, Low, Bad, Pde, Pdx}
use Rattle.chip.specs.declared.Chip.{Chip}
use Rattle.running.specs.declared.Asks.{Asks}
use Rattle.running.specs.Next.{resets_now}
use Rattle.edges.specs.Asks.{need18}
use Rattle.edges.specs.declared.Banks.{Banks}
use Rattle.edges.specs.declared.Waits.{Waits}
use Rattle.edges.specs.declared.Acts.{Acts}
use Rattle.edges.specs.declared.Floor.{Floor}

-- at a place the greater of what was and what is now asked
abbrev pub raised_at : List ℕ → (place : ℕ) → (edge : ℕ) → List ℕ
raised_at xs i e = set xs i (max (get_or xs i 0) e)

-- a precharge that is over at x
abbrev pub shut_floor : Floor → (x : ℕ) → Floor
shut_floor f x = record { act = f.act; rd = f.rd; wr = f.wr; pre = f.pre; idle = max f.idle x; out = f.out }

-- the clocks that a RD (rd) or WR asks for, under what the registers in force ask; long: with A12
abbrev pub col13 : Asks → (long : Bool) → ℕ
col13 w l = cond l w.long13 w.short13

abbrev pub col19 : Asks → (long : Bool) → ℕ
col19 w l = cond l w.long19 w.short19

abbrev pub col_pre : Asks → (rd : Bool) → ℕ
col_pre w rd = cond rd w.n10 w.n11

abbrev pub col_turn : Asks → (rd long : Bool) → ℕ
col_turn w rd l = cond rd (col13 w l) w.n14

abbrev pub col_out : Asks → (rd long : Bool) → ℕ
col_out w rd l = cond rd (col19 w l) 0

-- a RD or WR at the edge e
abbrev pub column_floor : Floor → Asks → (rd long : Bool) → (e : ℕ) → Floor
column_floor f w rd l e =
    record {
      act = f.act;
      rd = max f.rd (e + cond rd 4 w.n14);
      wr = max f.wr (e + cond rd (col13 w l) 4);
      pre = f.pre;
      idle = f.idle;
      out = max f.out (cond rd (e + col19 w l) 0);
    }

-- the start of the precharge of a RD or WR with A10; a: the edge of its bank's ACT
abbrev pub col_start : Asks → (tras : ℕ) → (rd : Bool) → (e a : ℕ) → ℕ
col_start w tras rd e a = max (cond rd (a + tras) 0) (e + cond rd w.n10 w.start)

-- what rule 8 asks, of the last four ACTs before this one
abbrev pub four_at : (at num : List ℕ) → (turn tfaw : ℕ) → ℕ
four_at at num turn tfaw = cond (not (eqb (get_or num ((turn + 1) % 4) 0) 0)) (get_or at ((turn + 1) % 4) 0 + tfaw) 0

-- an ACT
abbrev pub act_floor : Floor → (x four : ℕ) → Floor
act_floor f x y = record { act = max f.act (max x y); rd = f.rd; wr = f.wr; pre = f.pre; idle = f.idle; out = f.out }

-- ── What a frequent command leaves behind, of bank b at the edge e by record n ──────────────

-- a precharge
abbrev pub shut_banks : Banks → (b e n : ℕ) → Banks
shut_banks B b e n = record B { shutat = set B.shutat b e; shutno = set B.shutno b n }

abbrev pub shut_waits : Waits → (b x : ℕ) → Waits
shut_waits W b x = record W { act = raised_at W.act b x }

-- an ACT of a row
abbrev pub act_banks : Banks → Asks → (b row e n : ℕ) → Banks
act_banks B w b a e n = record B { actat = set B.actat b e; actno = set B.actno b n; actneed = set B.actneed b w.n4; row = set B.row b a }

abbrev pub act_waits : Waits → Chip → Asks → (b e : ℕ) → Waits
act_waits W C w b e =
    record W {
      act = raised_at W.act b (e + C.trc);
      col = raised_at (raised_at W.col b (e + w.n4)) (b + 8) (e + w.n4);
      pre = raised_at W.pre b (e + C.tras);
    }

abbrev pub act_acts : Acts → (e n : ℕ) → Acts
act_acts A e n = record { at = set A.at A.turn e; no = set A.no A.turn n; turn = (A.turn + 1) % 4 }

-- a RD or WR, at its place
abbrev pub col_banks : Banks → Asks → (rd long : Bool) → (place e n : ℕ) → Banks
col_banks B w rd l i e n =
    record B {
      colat = set B.colat i e;
      colno = set B.colno i n;
      colpre = set B.colpre i (col_pre w rd);
      colturn = set B.colturn i (col_turn w rd l);
      colout = set B.colout i (col_out w rd l);
    }

abbrev pub col_waits : Waits → Asks → (rd : Bool) → (b e : ℕ) → Waits
col_waits W w rd b e = record W { pre = raised_at W.pre b (e + col_pre w rd) }

-- ── When a frequent command is fine: rule 2, and its waiting time is over ───────────────────

-- a RD or WR: the bank is open
abbrev pub may_column : (shutno actno own floor e : ℕ) → Bool
may_column m n x y e = ltb m n && (leb x e && leb y e)

-- a PRE of one bank: it is not closing
abbrev pub may_precharge : (shutno actno shutat own floor e : ℕ) → Bool
may_precharge m n a x y e = (ltb m n || leb a e) && (leb x e && leb y e)

-- an ACT: the bank is idle
abbrev pub may_activate : (shutno actno shutat own floor e : ℕ) → Bool
may_activate m n a x y e = (leb n m && leb a e) && (leb x e && leb y e)

-- ── The seldom commands ─────────────────────────────────────────────────────────────────────

-- every bank's numbers raised
abbrev pub raised_floor : Floor → (x : ℕ) → Floor
raised_floor f x = record { act = max f.act x; rd = max f.rd x; wr = max f.wr x; pre = max f.pre x; idle = f.idle; out = f.out }

-- and the RD's raised once more
abbrev pub rd_floor : Floor → (x : ℕ) → Floor
rd_floor f x = record { act = f.act; rd = max f.rd x; wr = f.wr; pre = f.pre; idle = f.idle; out = f.out }

-- a PRE of all banks, over at x
abbrev pub shut_all_floor : Floor → (x : ℕ) → Floor
shut_all_floor f x = record { act = max f.act x; rd = f.rd; wr = f.wr; pre = f.pre; idle = max f.idle x; out = f.out }

-- the device's numbers raised, the MRS's by m
abbrev pub held_to : List ℕ → (x m : ℕ) → List ℕ
held_to h x m = max (get_or h 0 0) x ∷ max (get_or h 1 0) m ∷ max (get_or h 2 0) x ∷ max (get_or h 3 0) x ∷ []

-- the clocks that a command asks for which concerns no single bank; a PRE is one of all banks
abbrev pub asked_by : Chip → Command → Record → ℕ
asked_by C Ref r = C.trfc
asked_by C Zq r = need18 C r
asked_by C Mrs r = C.tmod
asked_by C Srx r = C.txs
asked_by C Pre r = C.trp
asked_by C Sre r = 0
asked_by C Nop r = 0
asked_by C Des r = 0
asked_by C Low r = 0
asked_by C Bad r = 0
asked_by C Pde r = 0
asked_by C Pdx r = C.txp
asked_by C Act r = 0
asked_by C Rd r = 0
asked_by C Wr r = 0

-- what it asks of every bank; slow: an exit is one of precharge power-down with MR0 A12 = 0
abbrev pub floor_next : Chip → Command → Record → (slow : Bool) → (e : ℕ) → Floor → Floor
floor_next C Ref r slow e f = raised_floor f (e + C.trfc)
floor_next C Zq r slow e f = raised_floor f (e + need18 C r)
floor_next C Mrs r slow e f = cond (resets_now Mrs r) (rd_floor (raised_floor f (e + C.tmod)) (e + 512)) (raised_floor f (e + C.tmod))
floor_next C Srx r slow e f = rd_floor (raised_floor f (e + C.txs)) (e + 512)
floor_next C Sre r slow e f = f
floor_next C Nop r slow e f = f
floor_next C Des r slow e f = f
floor_next C Low r slow e f = f
floor_next C Bad r slow e f = f
floor_next C Pde r slow e f = f
floor_next C Pdx r slow e f = cond slow (rd_floor (raised_floor f (e + C.txp)) (e + C.txpdll)) (raised_floor f (e + C.txp))
floor_next C Act r slow e f = f
floor_next C Rd r slow e f = f
floor_next C Wr r slow e f = f
floor_next C Pre r slow e f = shut_all_floor f (e + C.trp)

-- and of the device
abbrev pub holds_next : Chip → Command → Record → (e : ℕ) → List ℕ → List ℕ
holds_next C Ref r e h = held_to h (e + C.trfc) (e + C.trfc)
holds_next C Zq r e h = held_to h (e + need18 C r) (e + need18 C r)
holds_next C Mrs r e h = held_to h (e + C.tmod) (e + 4)
holds_next C Srx r e h = held_to h (e + C.txs) (e + C.txs)
holds_next C Sre r e h = h
holds_next C Nop r e h = h
holds_next C Des r e h = h
holds_next C Low r e h = h
holds_next C Bad r e h = h
holds_next C Pde r e h = h
holds_next C Pdx r e h = held_to h (e + C.txp) (e + C.txp)
holds_next C Act r e h = h
holds_next C Rd r e h = h
holds_next C Wr r e h = h
holds_next C Pre r e h = h
