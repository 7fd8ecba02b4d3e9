-- When a seldom command is fine where no deadline passes: what the loop asks before it goes by the marks.
-- Assumes nothing.
use Rattle.std.specs.Prelude.{ℕ, ◌+◌, ◌-◌, ◌≤◌, ◌<◌, true, cond, List, ◌⊎◌, ◌≡◌, eqb, get_or}
use Rattle.registers.specs.Allowed.{allowed}
use Rattle.records.specs.declared.Record.{Record}
use Rattle.records.specs.declared.Command.{Command}
use Rattle.records.specs.declared.Command.TheVariants.{Mrs, Ref, Pre, Act, Wr, Rd, Zq, Nop, Des, Sre, Srx, Low, Bad, Pde, Pdx}
use Rattle.records.specs.Command.{a10, bank_in}
use Rattle.chip.specs.declared.Chip.{Chip}
use Rattle.running.specs.Down.{of_read, of_auto, read_asks, write_asks}
use Rattle.edges.specs.declared.Banks.{Banks}
use Rattle.edges.specs.declared.Device.{Device}
use Rattle.edges.specs.declared.Floor.{Floor}
use Rattle.edges.specs.Views.{regs_of, REF, MRS, SRE, SRX, CKE}

-- all banks are idle at the edge e
pub record AllIdle (B : Banks) (e : ℕ) : Type 0 where
  pub closed : (b : ℕ) → b < 8 → get_or B.actno b 0 ≤ get_or B.shutno b 0
  pub over : (b : ℕ) → b < 8 → get_or B.shutat b 0 ≤ e

-- no bank is closing at the edge e, and each allows a PRE
pub record AllCalm (B : Banks) (pre : List ℕ) (e : ℕ) : Type 0 where
  pub calm : (b : ℕ) → b < 8 → (get_or B.shutno b 0 < get_or B.actno b 0) ⊎ (get_or B.shutat b 0 ≤ e)
  pub ready : (b : ℕ) → b < 8 → get_or pre b 0 ≤ e

-- REF, MRS, ZQ, SRE: all banks are idle, and rule 5 and the device's own number allow it
pub record Rested (B : Banks) (idle hold e : ℕ) : Type 0 where
  pub all : AllIdle B e
  pub starts : idle ≤ e
  pub own : hold ≤ e

-- what the latest event of a place asks for is over
abbrev pub Past : Device → (place e : ℕ) → Type 0
Past D i e = get_or D.need i 0 ≤ e - get_or D.at i 0

-- what the latest RD and WR of bank b ask of a power-down entry is over; k, l: what a RD and a WR with auto precharge ask by the registers in
-- force
pub record Over (k l mrs e : ℕ) (B : Banks) (b : ℕ) : Type 0 where
  pub read : read_asks k mrs (get_or B.colno b 0) ≤ e - get_or B.colat b 0
  pub wrote : write_asks l mrs (get_or B.shutno b 0) (get_or B.colno (b + 8) 0) (get_or B.colpre (b + 8) 0) ≤ e - get_or B.colat (b + 8) 0

-- a power-down entry: so is what the latest MRS asks
pub record Entered (tmod e : ℕ) (B : Banks) (D : Device) : Type 0 where
  pub set : cond (eqb (get_or D.no MRS 0) 0) 0 tmod ≤ e - get_or D.at MRS 0
  pub over : (b : ℕ) → b < 8 → Over (of_read (regs_of D)) (of_auto (regs_of D)) (get_or D.no MRS 0) e B b

abbrev pub MayCome : Chip → Command → Record → (e : ℕ) → Floor → Banks → (pre holds : List ℕ) → Device → Type 0
MayCome C Pre r e f B p h D = (a10 r ≡ true) × AllCalm B p e × (f.pre ≤ e)
MayCome C Ref r e f B p h D = Rested B f.idle (get_or h 0 0) e
MayCome C Mrs r e f B p h D = Rested B f.idle (get_or h 1 0) e × (f.out ≤ e) × (allowed C.header (bank_in r) r.a ≡ true)
MayCome C Zq r e f B p h D = Rested B f.idle (get_or h 2 0) e
MayCome C Sre r e f B p h D = Rested B f.idle (get_or h 3 0) e × (f.out ≤ e) × (get_or D.no SRX 0 ≤ get_or D.no REF 0) × Past D CKE e
MayCome C Srx r e f B p h D = Past D SRE e × Past D CKE e
MayCome C Nop r e f B p h D = Unit {0}
MayCome C Des r e f B p h D = Unit {0}
MayCome C Low r e f B p h D = Unit {0}
MayCome C Act r e f B p h D = ⊥
MayCome C Rd r e f B p h D = ⊥
MayCome C Wr r e f B p h D = ⊥
MayCome C Bad r e f B p h D = ⊥
MayCome C Pde r e f B p h D = Entered C.tmod e B D × Past D CKE e
MayCome C Pdx r e f B p h D = Past D CKE e
