-- The command of a record: 01, "Commands and the 25 rules", first paragraph; and 02, Q-1: "drops CKE with NOP or DES".
-- Assumes nothing.
use Rattle.std.specs.Prelude.{ℕ, ◌/◌, ◌%◌, Bool, true, false, cond, eqb, leb}
use Rattle.records.specs.declared.Record.{Record}
use Rattle.records.specs.declared.Command.{Command}
use Rattle.records.specs.declared.Command.TheVariants.{Mrs, Ref, Pre, Act, Wr, Rd, Zq, Nop, Des, Sre, Srx, Low, Bad, Pde, Pdx}

-- "CS RAS CAS WE with CKE high before and now: 0000 MRS, 0001 REF, 0010 PRE, 0011 ACT, 0100 WR, 0101 RD, 0110 ZQ, 0111 NOP, 1xxx DES"
unfoldable pub by_pins : ℕ → Command
by_pins n =
    cond (eqb n 0b0000) Mrs (cond (eqb n 0b0001) Ref (cond (eqb n 0b0010) Pre (cond (eqb n 0b0011) Act
    (cond (eqb n 0b0100) Wr (cond (eqb n 0b0101) Rd (cond (eqb n 0b0110) Zq (cond (eqb n 0b0111) Nop Des)))))))

-- "CKE falling with 0001 is SRE"; with NOP or DES it is a power-down entry
unfoldable pub falling : ℕ → Command
falling n = cond (eqb n 0b0001) Sre (cond (leb 0b0111 n) Pde Bad)

-- "CKE rising with NOP or DES is SRX", of a part that is asleep; else it is a power-down exit
unfoldable pub rising : (asleep : Bool) → ℕ → Command
rising asleep n = cond (leb 0b0111 n) (cond asleep Srx Pdx) Bad

-- by the CKE level before and now, and whether the latest fall of CKE was an SRE; "CKE staying low: pins ignored"
unfoldable pub command_of : (before asleep : Bool) → Record → Command
command_of before asleep r =
    cond before (cond r.cke (by_pins r.pins) (falling r.pins)) (cond r.cke (rising asleep r.pins) Low)

-- and whether it is asleep after the record: CKE is low, and its latest fall was with 0001
abbrev pub asleep_after : (before asleep : Bool) → Record → Bool
asleep_after before asleep r = cond r.cke false (cond before (eqb r.pins 0b0001) asleep)

-- commands told apart by a number each
abbrev pub rank : Command → ℕ
rank Mrs = 0
rank Ref = 1
rank Pre = 2
rank Act = 3
rank Wr = 4
rank Rd = 5
rank Zq = 6
rank Nop = 7
rank Des = 8
rank Sre = 9
rank Srx = 10
rank Low = 11
rank Bad = 12
rank Pde = 13
rank Pdx = 14

-- the command c is a k
abbrev pub is_a : (k c : Command) → Bool
is_a k c = eqb (rank c) (rank k)

-- "Command" below excludes NOP, DES, SRX; entry and exit of power-down are none
abbrev pub counts : Command → Bool
counts Mrs = true
counts Ref = true
counts Pre = true
counts Act = true
counts Wr = true
counts Rd = true
counts Zq = true
counts Nop = false
counts Des = false
counts Sre = true
counts Srx = false
counts Low = false
counts Bad = false
counts Pde = false
counts Pdx = false

-- A10: all banks of a PRE, auto precharge of a RD or WR, long of a ZQ
abbrev pub a10 : Record → Bool
a10 r = eqb (r.a / 1024 % 2) 1

-- the bank of a record: its three bits (a made-up one is taken modulo 8)
abbrev pub bank_in : Record → ℕ
bank_in r = r.bank % 8
