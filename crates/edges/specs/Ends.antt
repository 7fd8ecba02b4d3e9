-- A rank's beginning, its sections and its end, for every rank and chip: 01, "The recording", below the table of refusals.
-- Assumes nothing.
use Rattle.std.specs.Prelude.{ℕ, ◌+◌, ◌-◌, ◌*◌, ◌/◌, ◌%◌, Bool, true, false, cond, ◌||◌, List, eqb, ltb, length, replicate}
use Rattle.laws.specs.Eight.{table}
use Rattle.answers.specs.declared.Shown.{Shown}
use Rattle.answers.specs.declared.Verdict.{Verdict}
use Rattle.answers.specs.declared.End.{End}
use Rattle.answers.specs.Answer.{shown_of}
use Rattle.records.specs.Record.{records, has_zero}
use Rattle.chip.specs.declared.Chip.{Chip}
use Rattle.running.specs.declared.Late.{Late}
use Rattle.running.specs.Breaks.{status_of}
use Rattle.running.specs.Late.{why}
use Rattle.running.specs.Said.{no_verdict, verdict_at, clean_at, is_clean}
use Rattle.running.specs.Ranges.{limit, last_edge, is_small}
use Rattle.running.specs.Ends.{registers_of, rest_of, no_end}
use Rattle.edges.specs.declared.Banks.{Banks}
use Rattle.edges.specs.declared.Waits.{Waits}
use Rattle.edges.specs.declared.Acts.{Acts}
use Rattle.edges.specs.declared.Device.{Device}
use Rattle.edges.specs.declared.Debt.{Debt}
use Rattle.edges.specs.declared.Rank.{Rank}
use Rattle.edges.specs.Folded.{Folded}
use Rattle.edges.specs.Views.{kept_of, regs_of, written_of}
use Rattle.edges.specs.Next.{counting}
use Rattle.edges.specs.Says.{next24, next25, next28, next31, soonest_of, refreshed}
use Rattle.edges.specs.Step.{fold_of}
use Rattle.edges.specs.Ranges.{rank_in_range}

-- ── Before the first record ─────────────────────────────────────────────────────────────────

unfoldable pub fresh_banks : Banks
fresh_banks =
    record {
      actat = replicate 8 0;
      actno = replicate 8 0;
      actneed = replicate 8 0;
      row = replicate 8 0;
      colat = replicate 16 0;
      colno = replicate 16 0;
      colpre = replicate 16 0;
      colturn = replicate 16 0;
      colout = replicate 16 0;
      shutat = replicate 8 0;
      shutno = replicate 8 0;
    }

unfoldable pub fresh_waits : Waits
fresh_waits = record { act = replicate 8 0; col = replicate 16 0; pre = replicate 8 0; holds = replicate 4 0 }

unfoldable pub fresh_acts : Acts
fresh_acts = record { at = replicate 4 0; no = replicate 4 0; turn = 0 }

unfoldable pub fresh_device : Device
fresh_device = record { at = replicate 9 0; no = replicate 9 0; need = replicate 9 0; codes = replicate 4 0; written = replicate 4 false }

unfoldable pub fresh_rank : (level : Bool) (due gap : ℕ) → Rank
fresh_rank level due gap =
    record {
      edge = 0;
      count = 0;
      first = no_verdict;
      level = level;
      debt = record { sleeps = false; due = due; gap = gap };
      banks = fresh_banks;
      waits = fresh_waits;
      acts = fresh_acts;
      device = fresh_device;
    }

-- "Refresh debt starts at 0": 9 is owed nine intervals later; and those of rule 31 are counted "from edge 0"
abbrev pub start_rank : Chip → Rank
start_rank C = fresh_rank true (9 * C.trefi) (C.nine + 1)

-- ── A section ───────────────────────────────────────────────────────────────────────────────

-- the rank after a section's records, and whether a step is 0; as it was where one is, and where the length, the number of records, a
-- range or a count would let a sum wrap
unfoldable pub taken_of : Chip → Rank → (bytes : List ℕ) → Folded
taken_of C n bs =
    cond (eqb (length bs % 6) 0)
    (cond (ltb limit (n.count + length bs / 6)) same (cond (rank_in_range n) (cond (is_small C) (cond (has_zero (records bs)) zero (after (fold_of C n (records bs)))) same) same))
    same
  where
    after : Rank → Folded
    after m = record { zero = false; rank = m }

    same : Folded
    same = after n

    zero : Folded
    zero = record { zero = true; rank = n }

-- ── The end ─────────────────────────────────────────────────────────────────────────────────

-- the first deadline that passes after the latest record and before hi; at hi or later where none does
unfoldable pub next_late : Chip → Rank → (hi : ℕ) → Late
next_late C s hi =
    soonest_of (next24 C s.banks s.edge hi) (next25 s.debt (refreshed s) hi) (next28 C s.level s.debt.sleeps s.device hi)
    (next31 C s.debt (refreshed s) hi)

-- the break so far, or the deadline that passes up to the end edge, or clean
unfoldable pub verdict_of : Chip → Rank → (end : ℕ) → Verdict
verdict_of C s t =
    cond (is_clean s.first)
    (cond (ltb (next_late C s (t + 1)).at (t + 1)) (verdict_at (next_late C s (t + 1)).at 0 (why (next_late C s (t + 1)))) (clean_at s.count t))
    s.first

-- the debt + 8 at edge t: 9 is owed where no clock is left, and one less for each interval that is begun before
abbrev pub owed_at : Chip → Debt → (t : ℕ) → ℕ
owed_at C D t = 17 - (D.due - counting D t + (C.trefi - 1)) / C.trefi

abbrev pub banks_at : Chip → Banks → (t : ℕ) → List Shown
banks_at C B t = table (λ b. shown_of (status_of (kept_of C B b) t))

unfoldable pub end_of : Chip → Rank → (end : ℕ) → End
end_of C s t =
    let v = verdict_of C s t in
    record {
      verdict = v;
      banks = banks_at C s.banks (rest_of v t);
      registers = registers_of (regs_of s.device) (written_of s.device);
      owed = owed_at C s.debt (rest_of v t);
    }

-- the rank's end at an edge; zeros where a count or a range would let a sum wrap, or the edge is out of bounds
unfoldable pub ended_of : Chip → Rank → (end : ℕ) → End
ended_of C n t =
    cond (is_small C) (cond (rank_in_range n) (cond (ltb t n.edge || ltb last_edge t) no_end (end_of C n t)) no_end) no_end
