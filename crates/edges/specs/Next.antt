-- How a record changes what is kept. c is its command, r the record, e its edge, n its number, g the registers in force at it.
-- Assumes nothing.
use Rattle.std.specs.Prelude.{ℕ, ◌+◌, ◌-◌, ◌*◌, ◌%◌, Bool, true, false, cond, not, ◌&&◌, ◌||◌, List, leb, ltb, get_or, set}
use Rattle.laws.specs.Any.{any_of}
use Rattle.laws.specs.Eight.{table}
use Rattle.records.specs.declared.Record.{Record}
use Rattle.records.specs.declared.Command.{Command}
use Rattle.records.specs.declared.Command.TheVariants.{Mrs, Ref, Act, Wr, Rd, Zq, Sre, Srx, Pdx}
use Rattle.records.specs.Command.{is_a, bank_in}
use Rattle.codes.specs.Codes.{set as set1}
use Rattle.chip.specs.declared.Chip.{Chip}
use Rattle.chip.specs.declared.Regs.{Regs}
use Rattle.running.specs.Next.{need4, need10, need11, changing, resets_now, shuts_now, start_now, pre_all}
use Rattle.edges.specs.declared.Banks.{Banks}
use Rattle.edges.specs.declared.Acts.{Acts}
use Rattle.edges.specs.declared.Device.{Device}
use Rattle.edges.specs.declared.Debt.{Debt}
use Rattle.edges.specs.Views.{REF, MRS, ZQ, SRE, SRX, DLL, CKE, PDX, SLOW}
use Rattle.edges.specs.Asks.{need13, need14, need18, need19}

-- a place of an array, stored where x holds
abbrev pub set_if : {A : Type 0} → Bool → List A → (place : ℕ) → A → List A
set_if x xs i v = cond x (set xs i v) xs

-- ── Banks ───────────────────────────────────────────────────────────────────────────────────

abbrev pub column : Command → Bool
column c = is_a Rd c || is_a Wr c

-- the place of a RD or WR: the eight banks' RD, then their WR
abbrev pub place : Command → Record → ℕ
place c r = cond (is_a Wr c) (bank_in r + 8) (bank_in r)

-- the start of the record's precharge
abbrev pub start_of : Chip → Command → Record → (e : ℕ) → Regs → Banks → ℕ
start_of C c r e g B = start_now C c e g (get_or B.actat (bank_in r) 0)

unfoldable pub banks_next : Chip → Command → Record → (e n : ℕ) → Regs → Banks → Banks
banks_next C c r e n g B =
    record {
      actat = set_if (is_a Act c) B.actat (bank_in r) e;
      actno = set_if (is_a Act c) B.actno (bank_in r) n;
      actneed = set_if (is_a Act c) B.actneed (bank_in r) (need4 C g);
      row = set_if (is_a Act c) B.row (bank_in r) r.a;
      colat = set_if (column c) B.colat (place c r) e;
      colno = set_if (column c) B.colno (place c r) n;
      colpre = set_if (column c) B.colpre (place c r) (cond (is_a Rd c) (need10 C g) (need11 C g));
      colturn = set_if (column c) B.colturn (place c r) (cond (is_a Rd c) (need13 g r) (need14 C g));
      colout = set_if (column c) B.colout (place c r) (cond (is_a Rd c) (need19 g r) 0);
      shutat = cond (pre_all c r) (table (λ _. e)) (set_if (shuts_now c r) B.shutat (bank_in r) (start_of C c r e g B));
      shutno = cond (pre_all c r) (table (λ _. n)) (set_if (shuts_now c r) B.shutno (bank_in r) n);
    }

-- ── The last four ACTs ──────────────────────────────────────────────────────────────────────

unfoldable pub acts_next : Command → (e n : ℕ) → Acts → Acts
acts_next c e n A =
    record {
      at = set_if (is_a Act c) A.at A.turn e;
      no = set_if (is_a Act c) A.no A.turn n;
      turn = cond (is_a Act c) ((A.turn + 1) % 4) A.turn;
    }

-- ── The device ──────────────────────────────────────────────────────────────────────────────

-- a bank is open, and none is
abbrev pub opened : Banks → (bank : ℕ) → Bool
opened B b = ltb (get_or B.shutno b 0) (get_or B.actno b 0)

unfoldable pub none_open : Banks → Bool
none_open B = not (any_of (opened B) 8)

-- an exit now is one of precharge power-down with MR0 A12 = 0: since the entry no bank was opened or closed
unfoldable pub slow_now : Banks → Device → Bool
slow_now B D = get_or D.written 0 false && (not (set1 (get_or D.codes 0 0) 12) && none_open B)

-- something of the latest REF, MRS, ZQ, SRE, SRX, DLL reset
abbrev pub stamped : {A : Type 0} → Command → Record → List A → (ref mrs zq sre srx dll : A) → List A
stamped c r xs ref mrs zq sre srx dll =
    set_if (resets_now c r)
    (set_if (is_a Srx c) (set_if (is_a Sre c) (set_if (is_a Zq c) (set_if (is_a Mrs c) (set_if (is_a Ref c) xs REF ref) MRS mrs) ZQ zq) SRE sre) SRX srx)
    DLL dll

-- and of the latest change of CKE, power-down exit and slow one
abbrev pub turned_to : {A : Type 0} → Command → (slow : Bool) → List A → (cke pdx late : A) → List A
turned_to c slow xs cke pdx late = set_if (is_a Pdx c && slow) (set_if (is_a Pdx c) (set_if (changing c) xs CKE cke) PDX pdx) SLOW late

unfoldable pub device_next : Chip → Command → Record → (e n : ℕ) → (slow : Bool) → Device → Device
device_next C c r e n slow D =
    record {
      at = turned_to c slow (stamped c r D.at e e e e e e) e e e;
      no = turned_to c slow (stamped c r D.no n n n n n n) n n n;
      need = turned_to c slow (stamped c r D.need C.trfc 4 (need18 C r) (C.tcke + 1) C.txs 512) C.tcke C.txp C.txpdll;
      codes = set_if (is_a Mrs c) D.codes (bank_in r % 4) r.a;
      written = set_if (is_a Mrs c) D.written (bank_in r % 4) true;
    }

-- ── The debt ────────────────────────────────────────────────────────────────────────────────

-- the edge from which the debt's clocks are counted: a part that sleeps counts none
abbrev pub counting : Debt → (e : ℕ) → ℕ
counting D e = cond D.sleeps 0 e

-- what an SRX adds: the clocks that were left of a part that sleeps are counted from its edge on
abbrev pub woken : Debt → (e : ℕ) → ℕ
woken D e = cond D.sleeps e 0

-- after a REF: one interval later, unless the debt is -8, that is unless there are more than sixteen intervals
abbrev pub paid : (trefi e due : ℕ) → ℕ
paid T e d = cond (leb d (e + 16 * T)) (d + T) d

unfoldable pub debt_next : Chip → Command → (e : ℕ) → Debt → Debt
debt_next C c e D =
    cond (is_a Ref c) (record { sleeps = D.sleeps; due = paid C.trefi (counting D e) D.due; gap = counting D e + C.nine + 1 })
    (cond (is_a Sre c) (record { sleeps = true; due = D.due - counting D e; gap = D.gap - counting D e })
    (cond (is_a Srx c) (record { sleeps = false; due = D.due + woken D e; gap = D.gap + woken D e }) D))
