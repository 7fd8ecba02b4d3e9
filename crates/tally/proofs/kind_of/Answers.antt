-- Each command at its place; A10 tells two kinds apart.
-- Assumes nothing.
use Rattle.std.proofs.Common.{◌≡◌, ℕ, ◌<◌, Bool}
use Rattle.records.specs.declared.Command.{Command}
use Rattle.tally.specs.Kinds.{kind_of}
use Rattle.tally.proofs.kind_of.Goals as goal

-- the answer for the command that the match found
by-command : (a10 : Bool) {c d : Command} {k : ℕ} → c ≡ d → (k ≡ kind_of d a10) × (k < 19) → (k ≡ kind_of c a10) × (k < 19)
by-command a10 e h = rw e h

pub returns-in-Pre : goal.returns-in-Pre
returns-in-Pre c = by-command c.args.a10 c.in-Pre.is c.either.ensures

pub returns-in-Wr : goal.returns-in-Wr
returns-in-Wr c = by-command c.args.a10 c.in-Wr.is c.either-in-Wr.ensures

pub returns-in-Rd : goal.returns-in-Rd
returns-in-Rd c = by-command c.args.a10 c.in-Rd.is c.either-in-Rd.ensures

pub returns-in-Zq : goal.returns-in-Zq
returns-in-Zq c = by-command c.args.a10 c.in-Zq.is c.either-in-Zq.ensures
