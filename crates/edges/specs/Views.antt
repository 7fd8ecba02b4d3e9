-- What is kept, as the rules ask for it: the marks of a bank, and those that all banks share.
-- Assumes nothing.
use Rattle.std.specs.Prelude.{ℕ, zero, suc, ◌+◌, ◌-◌, ◌%◌, Bool, true, false, cond, not, ◌&&◌, ◌||◌, List, [], ◌∷◌, eqb, ltb, get_or}
use Rattle.laws.specs.Eight.{table}
use Rattle.chip.specs.declared.Chip.{Chip}
use Rattle.chip.specs.declared.Regs.{Regs}
use Rattle.running.specs.declared.Mark.{Mark}
use Rattle.running.specs.declared.Kept.{Kept}
use Rattle.running.specs.declared.Read.{Read}
use Rattle.running.specs.declared.Wrote.{Wrote}
use Rattle.running.specs.declared.Written.{Written}
use Rattle.running.specs.declared.Rests.{Rests}
use Rattle.running.specs.declared.Shared.{Shared}
use Rattle.running.specs.Marks.{needing}
use Rattle.edges.specs.declared.Banks.{Banks}
use Rattle.edges.specs.declared.Acts.{Acts}
use Rattle.edges.specs.declared.Device.{Device}

-- the record at a place of an array of edges, of numbers and of what they need
abbrev pub mark_at : (at num need : List ℕ) → (place : ℕ) → Mark
mark_at at num need i = record { at = get_or at i 0; num = get_or num i 0; need = get_or need i 0 }

-- the same where the need is a constant
abbrev pub mark_by : (need : ℕ) (at num : List ℕ) → (place : ℕ) → Mark
mark_by n at num i = needing n (record { at = get_or at i 0; num = get_or num i 0; need = 0 })

-- ── A bank ──────────────────────────────────────────────────────────────────────────────────

unfoldable pub kept_of : Chip → Banks → (bank : ℕ) → Kept
kept_of C B b =
    record {
      acted = mark_at B.actat B.actno B.actneed b;
      row = get_or B.row b 0;
      read = mark_at B.colat B.colno B.colpre b;
      wrote = mark_at B.colat B.colno B.colpre (b + 8);
      shut = mark_by C.trp B.shutat B.shutno b;
    }

abbrev pub kepts_of : Chip → Banks → List Kept
kepts_of C B = table (kept_of C B)

-- ── All banks ───────────────────────────────────────────────────────────────────────────────

-- the place of the greatest number, of the n + 1 from a place on
unfoldable pub latest_from : List ℕ → (from n : ℕ) → ℕ
latest_from num i zero = i
latest_from num i (suc n) = cond (ltb (get_or num (latest_from num i n) 0) (get_or num (i + suc n) 0)) (i + suc n) (latest_from num i n)

-- bank b starts its precharge after bank x, or at the same edge by a later record
abbrev pub starts_after : (at num : List ℕ) (x b : ℕ) → Bool
starts_after at num x b = ltb (get_or at x 0) (get_or at b 0) || eqb (get_or at x 0) (get_or at b 0) && ltb (get_or num x 0) (get_or num b 0)

-- the bank of the greatest start, of equals that of the later record, of the banks up to n
unfoldable pub last_start : (at num : List ℕ) (n : ℕ) → ℕ
last_start at num zero = 0
last_start at num (suc n) = cond (starts_after at num (last_start at num n) (suc n)) (suc n) (last_start at num n)

unfoldable pub read_of : Banks → Read
read_of B =
    let i = latest_from B.colno 0 7 in
    record { at = get_or B.colat i 0; num = get_or B.colno i 0; n10 = get_or B.colpre i 0; n13 = get_or B.colturn i 0; n19 = get_or B.colout i 0 }

unfoldable pub wrote_of : Banks → Wrote
wrote_of B =
    let i = latest_from B.colno 8 7 in
    record { at = get_or B.colat i 0; num = get_or B.colno i 0; n11 = get_or B.colpre i 0; n14 = get_or B.colturn i 0 }

unfoldable pub shut_of : Chip → Banks → Mark
shut_of C B = mark_by C.trp B.shutat B.shutno (last_start B.shutat B.shutno 7)

-- the ACT that has n after it, below 4: turn is the place of the oldest
abbrev pub act_back : Chip → Acts → (n : ℕ) → Mark
act_back C A n = mark_by C.tras A.at A.no ((A.turn + (3 - n)) % 4)

abbrev pub acts_of : Chip → Acts → List Mark
acts_of C A = act_back C A 0 ∷ act_back C A 1 ∷ act_back C A 2 ∷ act_back C A 3 ∷ []

-- ── The device ──────────────────────────────────────────────────────────────────────────────

-- the places of the latest REF, MRS, ZQ, SRE, SRX, DLL reset, change of CKE, power-down exit, and slow one
abbrev pub REF : ℕ
REF = 0

abbrev pub MRS : ℕ
MRS = 1

abbrev pub ZQ : ℕ
ZQ = 2

abbrev pub SRE : ℕ
SRE = 3

abbrev pub SRX : ℕ
SRX = 4

abbrev pub DLL : ℕ
DLL = 5

abbrev pub CKE : ℕ
CKE = 6

abbrev pub PDX : ℕ
PDX = 7

abbrev pub SLOW : ℕ
SLOW = 8

abbrev pub device_mark : Device → (place : ℕ) → Mark
device_mark D i = mark_at D.at D.no D.need i

-- rule 20 counts from the later of a DLL reset and an SRX
unfoldable pub rests_of : Device → Rests
rests_of D =
    record {
      refreshed = device_mark D REF;
      tuned = device_mark D ZQ;
      reset = cond (ltb (get_or D.no DLL 0) (get_or D.no SRX 0)) (record { at = get_or D.at SRX 0; num = get_or D.no SRX 0; need = 512 }) (device_mark D DLL);
      woke = device_mark D SRX;
      slept = device_mark D SRE;
      turned = device_mark D CKE;
      left = device_mark D PDX;
      slow = device_mark D SLOW;
    }

abbrev pub regs_by : (codes : List ℕ) → Regs
regs_by g = record { mr0 = get_or g 0 0; mr1 = get_or g 1 0; mr2 = get_or g 2 0; mr3 = get_or g 3 0 }

abbrev pub regs_of : Device → Regs
regs_of D = regs_by D.codes

abbrev pub written_of : Device → Written
written_of D =
    record {
      w0 = get_or D.written 0 false;
      w1 = get_or D.written 1 false;
      w2 = get_or D.written 2 false;
      w3 = get_or D.written 3 false;
      dll = not (eqb (get_or D.no DLL 0) 0);
    }

-- what rules 4 to 30 look at; now, level and debt they do not
unfoldable pub shared_of : Chip → Banks → Acts → Device → Shared
shared_of C B A D =
    record {
      now = 0;
      level = true;
      acts = acts_of C A;
      rests = rests_of D;
      debt = record { sleeps = false; phase = 0; owed = 0; gap = 0 };
      regs = regs_of D;
      written = written_of D;
      read = read_of B;
      wrote = wrote_of B;
      mrs = device_mark D MRS;
      shut = shut_of C B;
    }
