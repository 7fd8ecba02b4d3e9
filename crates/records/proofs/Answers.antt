-- One answer for each public contract.
-- Assumes nothing.
use Rattle.std.proofs.Common.{ℕ, List}
use mathlib.Core.Bool.{Bool}
use Rattle.laws.proofs.Unique.{Unique, one_answer}
use Rattle.records.specs.declared.Record.{Record}
use Rattle.records.specs.declared.Command.{Command}
use Rattle.records.specs.Pieces.{pieces}
use Rattle.records.specs.Record.{record_at}
use Rattle.records.specs.Command.{command_of, rank}
use Rattle.records.specs.Promises.{Sixes, Decode, CommandOf, RankOf}

pub sixes-unique : (bytes : List ℕ) → Unique (Sixes bytes)
sixes-unique bytes = one_answer (pieces 6 bytes)

pub decode-unique : (six : List ℕ) → Unique (Decode six)
decode-unique six = one_answer (record_at six 0)

pub command-unique : (before asleep : Bool) (r : Record) → Unique (CommandOf before asleep r)
command-unique before asleep r = one_answer (command_of before asleep r)

pub rank-unique : (c : Command) → Unique (RankOf c)
rank-unique c = one_answer (rank c)
