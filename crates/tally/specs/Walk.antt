-- A record of a list, where it stands and what it is: by a walk over the records, and by looking back over the recording.
-- Assumes nothing.
use Rattle.std.specs.Prelude.{ℕ, ◌+◌, ◌%◌, true, false, cond, ltb, ◌∷◌, nat_lt}
use Rattle.records.specs.declared.Record.{Record}
use Rattle.records.specs.Command.{asleep_after, a10}
use Rattle.rules.specs.Past.{Past, number, edge, cke, asleep, command, latest}
use Rattle.tally.specs.declared.Reached.{Reached}
use Rattle.tally.specs.declared.Found.{Found}
use Rattle.tally.specs.Kinds.{kind_of, kind_at}

-- ── By a walk ───────────────────────────────────────────────────────────────────────────────

-- "CKE is high before the first record", and the part awake
abbrev pub start : (limit : ℕ) → Reached
start t = record { number = 0; edge = 0; level = true; sleeps = false; limit = t; before = 0 }

-- the walk's numbers have 64 bits
abbrev pub wrapped : ℕ → ℕ
wrapped n = n % 18446744073709551616

-- at a record with this number and edge
abbrev pub reached_at : (number edge : ℕ) → Reached → Record → Reached
reached_at n e s r = record {
  number = n;
  edge = e;
  level = r.cke;
  sleeps = asleep_after s.level s.sleeps r;
  limit = s.limit;
  before = cond (nat_lt e s.limit) n s.before;
}

-- a record more
unfoldable pub next_of : Reached → Record → Reached
next_of s r = reached_at (wrapped (s.number + 1)) (wrapped (s.edge + r.step)) s r

unfoldable pub found_of : Reached → Record → Found
found_of s r = record {
  reached = next_of s r;
  level = s.level;
  kind = kind_at s.level s.sleeps r;
  fields = r;
}

-- ── By looking back ─────────────────────────────────────────────────────────────────────────

-- the latest record's number and edge, the level after it, whether the part sleeps; how many stand before the edge `limit`
abbrev pub reached_of : (limit : ℕ) → Past → Reached
reached_of t p = record {
  number = number p;
  edge = edge p;
  level = cke p;
  sleeps = asleep p;
  limit = t;
  before = number (latest (λ s. ltb (edge s) t) p);
}

-- the record r behind the recording p
abbrev pub event_of : (limit : ℕ) → Record → Past → Found
event_of t r p = record {
  reached = reached_of t (r ∷ p);
  level = cke p;
  kind = kind_of (command (r ∷ p)) (a10 r);
  fields = r;
}
