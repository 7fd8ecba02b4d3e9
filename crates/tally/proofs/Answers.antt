-- One answer for each public contract.
-- Assumes nothing.
use Rattle.std.proofs.Common.{ℕ, Bool, List}
use Rattle.laws.proofs.Unique.{Unique, one_answer}
use Rattle.records.specs.declared.Record.{Record}
use Rattle.records.specs.Record.{words}
use Rattle.tally.specs.declared.Tally.{Tally}
use Rattle.tally.specs.Kinds.{kind_at}
use Rattle.tally.specs.Tally.{start, section_of}
use Rattle.tally.specs.declared.Reached.{Reached}
use Rattle.tally.specs.Walk as found
use Rattle.tally.specs.Refused.{refused_at}
use Rattle.tally.specs.declared.Spot.{Spot}
use Rattle.tally.specs.Places.{start_of, begun_of, passed_of, find_of}
use Rattle.tally.specs.Promises.{TallyStart, TallySection, KindAt, ReachedStart, ReachedNext, ReachedFound, RefusedAt, SpotStart, SpotBegun, SpotPassed, SpotFind}

pub start-unique : Unique TallyStart
start-unique = one_answer start

pub section-unique : (t : Tally) (bytes : List ℕ) → Unique (TallySection t bytes)
section-unique t bytes = one_answer (section_of t bytes)

pub kind-unique : (before asleep : Bool) (r : Record) → Unique (KindAt before asleep r)
kind-unique before asleep r x y p q = one_answer (kind_at before asleep r) x y p.0 q.0

pub walk-unique : (limit : ℕ) → Unique (ReachedStart limit)
walk-unique t = one_answer (found.start t)

pub next-unique : (s : Reached) (r : Record) → Unique (ReachedNext s r)
next-unique s r = one_answer (found.next_of s r)

pub found-unique : (s : Reached) (r : Record) → Unique (ReachedFound s r)
found-unique s r = one_answer (found.found_of s r)

pub refused-unique : (refused : ℕ) (bytes : List ℕ) (count : ℕ) → Unique (RefusedAt refused bytes count)
refused-unique n bs count = one_answer (refused_at n bs count)

pub spot-unique : (limit : ℕ) → Unique (SpotStart limit)
spot-unique t = one_answer (start_of t)

pub begun-unique : (s : Spot) (headed : Bool) → Unique (SpotBegun s headed)
begun-unique s headed = one_answer (begun_of s headed)

pub passed-unique : (s : Spot) (bytes : List ℕ) → Unique (SpotPassed s bytes)
passed-unique s bytes = one_answer (passed_of s (words bytes))

pub find-unique : (n : ℕ) (s : Spot) (bytes : List ℕ) → Unique (SpotFind s n bytes)
find-unique n s bytes = one_answer (find_of n s (words bytes))
