-- Precharge and the status of a bank: 01, "Commands and the 25 rules", second paragraph.
-- Assumes nothing.
use Rattle.std.specs.Prelude.{ℕ, ◌+◌, max, Bool, true, false, cond, ◌&&◌, ◌||◌, [], ◌∷◌, leb}
use Rattle.records.specs.declared.Command.TheVariants.{Pre, Act, Rd}
use Rattle.answers.specs.declared.Bank.{Bank}
use Rattle.answers.specs.declared.Bank.TheVariants.{Idle, Open, Closing}
use Rattle.chip.specs.declared.Chip.{Chip}
use Rattle.rules.specs.Past.{Past, edge, number, is, column, bank_of, on, address_of, a10_of, latest}
use Rattle.rules.specs.Registers.{al, wl, wr, h}

-- ── Events of a bank ────────────────────────────────────────────────────────────────────────

abbrev pub act_on : (bank : ℕ) → Past → Bool
act_on b s = is Act s && on b s

-- the event closes bank b: a PRE that covers it, or a RD or WR on it with auto precharge
abbrev pub closes : (bank : ℕ) → Past → Bool
closes b s = is Pre s && (a10_of s || on b s) || column s && (a10_of s && on b s)

-- the event closes some bank
abbrev pub shuts : Past → Bool
shuts s = is Pre s || column s && a10_of s

abbrev pub touches : (bank : ℕ) → Past → Bool
touches b s = act_on b s || closes b s

-- ── A status ────────────────────────────────────────────────────────────────────────────────

-- "with row (A15..A0) and ACT edge unless idle": of an ACT, with its number
abbrev pub open_by : Past → Bank
open_by s = Open (edge s) (number s) (address_of s)

abbrev pub closing_by : Past → Bank
closing_by s = Closing (edge s) (number s) (address_of s)

abbrev pub is_idle : Bank → Bool
is_idle Idle = true
is_idle (Open at num row) = false
is_idle (Closing at num row) = false

abbrev pub is_open : Bank → Bool
is_open Idle = false
is_open (Open at num row) = true
is_open (Closing at num row) = false

abbrev pub not_closing : Bank → Bool
not_closing Idle = true
not_closing (Open at num row) = true
not_closing (Closing at num row) = false

-- the number of its ACT; 0 where it is idle
abbrev pub act_num : Bank → ℕ
act_num Idle = 0
act_num (Open at num row) = num
act_num (Closing at num row) = num

-- ── Precharge ───────────────────────────────────────────────────────────────────────────────

module _ (C : Chip) where
  -- of an event that closes a bank: "A bank's precharge starts at PRE's edge; with auto precharge at the later of ACT + t_ras and
  -- RD + AL + t_rtp; for WR at WR + WL + h + programmed WR"
  unfoldable pub start : Past → ℕ
  start [] = 0
  start (r ∷ p) =
      cond (is Pre (r ∷ p)) (edge (r ∷ p))
      (cond (is Rd (r ∷ p))
      (max (edge (latest (act_on (bank_of (r ∷ p))) p) + C.tras) (edge (r ∷ p) + al (r ∷ p) + C.trtp))
      (edge (r ∷ p) + wl (r ∷ p) + h (r ∷ p) + wr (r ∷ p)))

  -- "A bank is idle at and after its start; from the RD or WR with auto precharge until then it is closing": the status at edge t of
  -- the bank b whose latest ACT or closing event is s. "At first all banks are idle"
  unfoldable pub seen : (bank : ℕ) → Past → ℕ → Bank
  seen b [] t = Idle
  seen b (r ∷ p) t =
      cond (closes b (r ∷ p)) (cond (leb (start (r ∷ p)) t) Idle (closing_by (latest (act_on b) p))) (open_by (r ∷ p))

  -- the status of bank b at edge t, after the past p
  abbrev pub status : (bank : ℕ) → Past → ℕ → Bank
  status b p t = seen b (latest (touches b) p) t
