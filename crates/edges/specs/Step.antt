-- A record's effect on the rank, and the verdict so far.
-- Assumes nothing.
use Rattle.std.specs.Prelude.{ℕ, ◌+◌, cond, List, [], ◌∷◌}
use Rattle.answers.specs.declared.Verdict.{Verdict}
use Rattle.records.specs.declared.Record.{Record}
use Rattle.chip.specs.declared.Chip.{Chip}
use Rattle.chip.specs.declared.Regs.{Regs}
use Rattle.running.specs.Said.{is_clean, clean_at}
use Rattle.edges.specs.declared.Rank.{Rank}
use Rattle.edges.specs.Views.{regs_of}
use Rattle.edges.specs.Asks.{four_back, waits_next}
use Rattle.edges.specs.Next.{start_of, banks_next, acts_next, slow_now, device_next, debt_next}
use Rattle.edges.specs.Says.{command_in, says_of}

-- the registers in force at the record: no RD, WR or ACT is an MRS
abbrev pub regs_in : Rank → Regs
regs_in s = regs_of s.device

-- after a clean record
unfoldable pub moved_of : Chip → Rank → Record → Rank
moved_of C s r =
    let c = command_in s r in
    let e = s.edge + r.step in
    let n = s.count + 1 in
    let g = regs_in s in
    let slow = slow_now s.banks s.device in
    record {
      edge = e;
      count = n;
      first = s.first;
      level = r.cke;
      debt = debt_next C c e s.debt;
      banks = banks_next C c r e n g s.banks;
      waits = waits_next C c r e g (start_of C c r e g s.banks) (four_back C s.acts) slow s.waits;
      acts = acts_next c e n s.acts;
      device = device_next C c r e n slow s.device;
    }

-- "Once broken, later sections are still checked and counted, but verdict, banks, registers and debt stay as they were"
unfoldable pub stopped_of : Rank → Record → Verdict → Rank
stopped_of s r v =
    record {
      edge = s.edge + r.step;
      count = s.count + 1;
      first = v;
      level = s.level;
      debt = s.debt;
      banks = s.banks;
      waits = s.waits;
      acts = s.acts;
      device = s.device;
    }

-- so many edges and records later, with nothing else altered
unfoldable pub later_of : Rank → (steps records : ℕ) → Rank
later_of s steps records =
    record {
      edge = s.edge + steps;
      count = s.count + records;
      first = s.first;
      level = s.level;
      debt = s.debt;
      banks = s.banks;
      waits = s.waits;
      acts = s.acts;
      device = s.device;
    }

-- one record
unfoldable pub step_of : Chip → Rank → Record → Rank
step_of C s r =
    cond (is_clean s.first)
    (cond (is_clean (says_of C s r)) (moved_of C s r) (stopped_of s r (says_of C s r)))
    (stopped_of s r s.first)

abbrev pub fold_of : Chip → Rank → List Record → Rank
fold_of C s [] = s
fold_of C s (r ∷ rs) = fold_of C (step_of C s r) rs

-- "After each section the verdict so far is as if closed at the last record's edge so far"
unfoldable pub so_far : Rank → Verdict
so_far s = cond (is_clean s.first) (clean_at s.count s.edge) s.first
