-- The waiting times of a rank: afresh from what is kept, by looking back over the recording, and what they allow.
-- Assumes nothing.
use Rattle.std.specs.Prelude.{ℕ, ◌+◌, ◌≤◌, ◌<◌, ◌≡◌, ◌↔◌, ◌∷◌, get_or}
use Rattle.answers.specs.declared.Break.TheVariants.{Fine}
use Rattle.records.specs.declared.Record.{Record}
use Rattle.records.specs.declared.Command.{Command}
use Rattle.records.specs.declared.Command.TheVariants.{Mrs, Ref, Pre, Act, Wr, Rd, Zq, Nop, Des, Sre, Srx, Low, Bad, Pde, Pdx}
use Rattle.chip.specs.declared.Chip.{Chip}
use Rattle.running.specs.Waits.{wait_of}
use Rattle.edges.specs.declared.Waits.{Waits}
use Rattle.edges.specs.declared.Rank.{Rank}
use Rattle.edges.specs.Views.{kept_of}
use Rattle.edges.specs.Asks.{wait_for}
use Rattle.edges.specs.Says.{shared_in}
use Rattle.rules.specs.Past.{Past, edge, command, up_to}
use Rattle.rules.specs.Rules.{break_at}
use Rattle.rules.specs.Verdict.{verdict_to, rest}
use Rattle.rules.specs.Waiting.{wait, waiting_rules}

-- the number that is kept for a command on a bank: of an ACT, RD, WR and PRE one a bank, of a REF, MRS, ZQ and SRE one for the device
abbrev pub time_of : Waits → Command → (bank : ℕ) → ℕ
time_of W Act b = get_or W.act b 0
time_of W Rd b = get_or W.col b 0
time_of W Wr b = get_or W.col (b + 8) 0
time_of W Pre b = get_or W.pre b 0
time_of W Ref b = get_or W.holds 0 0
time_of W Mrs b = get_or W.holds 1 0
time_of W Zq b = get_or W.holds 2 0
time_of W Sre b = get_or W.holds 3 0
time_of W Nop b = 0
time_of W Des b = 0
time_of W Srx b = 0
time_of W Low b = 0
time_of W Bad b = 0
time_of W Pde b = 0
time_of W Pdx b = 0

-- the records of p of which a state keeps something: all, or those before the first broken edge
abbrev pub standing : Chip → Past → Past
standing C p = up_to (rest (verdict_to C p (edge p)) (edge p)) p

-- the waiting times of the rank s, which keeps something of the records q
pub record Waited (C : Chip) (s : Rank) (q : Past) : Type 0 where
  -- worked out afresh from the edges that s keeps
  pub afresh : (c : Command) (b : ℕ) → b < 8 → time_of s.waits c b ≡ wait_of C c (kept_of C s.banks b) (shared_in C s)
  -- the latest edge that any of the records asks for by rules 4 to 21, 29 and 30
  pub look-back : (c : Command) (b : ℕ) → b < 8 → time_of s.waits c b ≡ wait C c b q
  -- a record breaks none of rules 4 to 21, 29 and 30 just if its edge is not below its waiting time
  pub allow : (r : Record) → (break_at (waiting_rules C) r q ≡ Fine) ↔ (wait_for s.waits (command (r ∷ q)) r ≤ edge (r ∷ q))
