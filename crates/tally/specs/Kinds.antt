-- The kinds of records that are counted, a number each: 01, "Commands and the 25 rules", first paragraph; and 02, Q-1.
-- Assumes nothing.
use Rattle.std.specs.Prelude.{ℕ, Bool, cond}
use Rattle.records.specs.declared.Record.{Record}
use Rattle.records.specs.declared.Command.{Command}
use Rattle.records.specs.declared.Command.TheVariants.{Mrs, Ref, Pre, Act, Wr, Rd, Zq, Nop, Des, Sre, Srx, Low, Bad, Pde, Pdx}
use Rattle.records.specs.Command.{command_of, a10}

-- "PRE (A10: all banks)", "WR, RD (A10: auto precharge)", "ZQ (A10: long)"; REF and SRE are two
abbrev pub kind_of : Command → (a10 : Bool) → ℕ
kind_of Mrs x = 0
kind_of Ref x = 1
kind_of Pre x = cond x 3 2
kind_of Act x = 4
kind_of Wr x = cond x 6 5
kind_of Rd x = cond x 8 7
kind_of Zq x = cond x 9 10
kind_of Nop x = 11
kind_of Des x = 12
kind_of Sre x = 13
kind_of Srx x = 14
kind_of Low x = 15
kind_of Bad x = 16
kind_of Pde x = 17
kind_of Pdx x = 18

-- a record's kind, by the CKE level before it, and whether the part was asleep
unfoldable pub kind_at : (before asleep : Bool) → Record → ℕ
kind_at before asleep r = kind_of (command_of before asleep r) (a10 r)
