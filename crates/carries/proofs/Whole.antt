-- The whole recording: the state after any records, as a function of the recording.
-- Assumes nothing.
use Rattle.answers.specs.declared.Verdict.{Verdict}
use Rattle.chip.specs.declared.Chip.{Chip}
use Rattle.edges.specs.declared.Rank.{Rank}
use Rattle.rules.specs.Past.{Past, edge, number, cke, up_to}
use Rattle.rules.specs.Verdict.{Outcome, verdict_to, rest}
use Rattle.rules.proofs.Turn.{said}
use Rattle.carries.proofs.Summary.{acts_of, debt_of, banks_of, waits_of, device_of}

-- the state that counts the records of p, keeps the summary of q and says v
unfoldable pub frozen : Chip → (p q : Past) → Verdict → Rank
frozen C p q v =
    record {
      edge = edge p;
      count = number p;
      first = v;
      level = cke q;
      debt = debt_of C q;
      banks = banks_of C q;
      waits = waits_of C q;
      acts = acts_of q;
      device = device_of C q;
    }

-- The state after the recording p, of which the rules say v: all of p is counted, and what is kept is kept of the records before the
-- broken edge.
unfoldable pub carried_by : Chip → Outcome → Past → Rank
carried_by C v p = frozen C p (up_to (rest v (edge p)) p) (said v)

abbrev pub carried : Chip → Past → Rank
carried C p = carried_by C (verdict_to C p (edge p)) p
