-- A recording seen from one of its records: 01, "The recording", and the first paragraph of "Commands and the 25 rules".
-- Assumes nothing.
use Rattle.std.specs.Prelude.{ℕ, zero, suc, ◌+◌, ◌≤◌, ◌<◌, Bool, true, false, cond, not, ◌||◌, List, [], ◌∷◌, reverse, ◌≡◌, eqb, leb}
use Rattle.records.specs.declared.Record.{Record}
use Rattle.records.specs.declared.Command.{Command}
use Rattle.records.specs.declared.Command.TheVariants.{Wr, Rd, Nop}
use Rattle.records.specs.Record.{records}
use Rattle.records.specs.Command.{command_of, asleep_after, is_a, counts, a10, bank_in}

-- What was recorded so far, LATEST FIRST. An event is a past that is not empty: its head is a record, its tail all that came before it.
abbrev pub Past : Type 0
Past = List Record

-- the recording of a section's bytes
abbrev pub recording : List ℕ → Past
recording bs = reverse (records bs)

-- s is an event of p
infix 40 ◌∈◌
pub data ◌∈◌ : Past → Past → Type 0 where
  here : {r : Record} {p : Past} → r ∷ p ∈ r ∷ p
  there : {r : Record} {s p : Past} → s ∈ p → s ∈ r ∷ p

-- ── The latest record of a past ─────────────────────────────────────────────────────────────

-- its clock edge: "edges since the record before; for the first, since edge 0"
abbrev pub edge : Past → ℕ
edge [] = 0
edge (r ∷ p) = edge p + r.step

-- "Records count from 1; 0 means none"
abbrev pub number : Past → ℕ
number [] = 0
number (r ∷ p) = number p + 1

-- "Between records CKE keeps its level"; "CKE is high before the first record"
abbrev pub cke : Past → Bool
cke [] = true
cke (r ∷ p) = r.cke

-- CKE changes at it
abbrev pub changes : Past → Bool
changes [] = false
changes (r ∷ p) = cond (cke p) (not r.cke) r.cke

-- the part is asleep after it: CKE fell with 0001, an SRE, and has not risen
unfoldable pub asleep : Past → Bool
asleep [] = false
asleep (r ∷ p) = asleep_after (cke p) (asleep p) r

-- its command, by the CKE level before it and now, and the latest fall
abbrev pub command : Past → Command
command [] = Nop
command (r ∷ p) = command_of (cke p) (asleep p) r

-- its command is a k; there is none before the first record
abbrev pub is : Command → Past → Bool
is k [] = false
is k (r ∷ p) = is_a k (command (r ∷ p))

-- "Command" below excludes NOP, DES, SRX
abbrev pub any_command : Past → Bool
any_command s = counts (command s)

-- RD or WR
abbrev pub column : Past → Bool
column s = is Rd s || is Wr s

-- its bank BA, or register of an MRS
abbrev pub bank_of : Past → ℕ
bank_of [] = 0
bank_of (r ∷ p) = bank_in r

abbrev pub on : (bank : ℕ) → Past → Bool
on b s = eqb (bank_of s) b

-- A15..A0
abbrev pub address_of : Past → ℕ
address_of [] = 0
address_of (r ∷ p) = r.a

-- A10: all banks of a PRE, auto precharge of a RD or WR, long of a ZQ
abbrev pub a10_of : Past → Bool
a10_of [] = false
a10_of (r ∷ p) = a10 r

-- ── Looking back ────────────────────────────────────────────────────────────────────────────

-- the latest event of the kind k; [] if there is none
abbrev pub latest : (Past → Bool) → Past → Past
latest k [] = []
latest k (r ∷ p) = cond (k (r ∷ p)) (r ∷ p) (latest k p)

-- the event of the kind k that has n of the kind after it; [] if there is none
abbrev pub back : (Past → Bool) → ℕ → Past → Past
back k n [] = []
back k zero (r ∷ p) = cond (k (r ∷ p)) (r ∷ p) (back k zero p)
back k (suc n) (r ∷ p) = cond (k (r ∷ p)) (back k n p) (back k (suc n) p)

-- there is an event of the kind k
abbrev pub has : (Past → Bool) → Past → Bool
has k [] = false
has k (r ∷ p) = k (r ∷ p) || has k p

-- the event of the kind k for which f is greatest, of equals the latest; [] if there is none
abbrev pub greatest : (Past → Bool) → (Past → ℕ) → Past → Past
greatest k f [] = []
greatest k f (r ∷ p) = cond (k (r ∷ p)) (cond (leb (f (greatest k f p)) (f (r ∷ p))) (r ∷ p) (greatest k f p)) (greatest k f p)

-- s is that event: none of the kind has more, and none after it as much
pub record Greatest (k : Past → Bool) (f : Past → ℕ) (p s : Past) : Type 0 where
  pub event : s ∈ p
  pub kind : k s ≡ true
  pub most : (t : Past) → t ∈ p → k t ≡ true → f t ≤ f s
  pub last : (t : Past) → t ∈ p → k t ≡ true → number s < number t → f t < f s

-- the records up to edge t
abbrev pub up_to : ℕ → Past → Past
up_to t [] = []
up_to t (r ∷ p) = cond (leb (edge (r ∷ p)) t) (r ∷ p) (up_to t p)
