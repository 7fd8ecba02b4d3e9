-- A verdict far off is had without walking there: by the theorem on whole recordings it is what the running judge answers, and that is
-- computed.
-- Assumes nothing.
use Prim.Native.Nat.{ℕ}
use mathlib.Core.Path.{◌≡◌, refl, sym, ◌∙◌}
use mathlib.Core.Bool.{true, false}
use mathlib.Core.List.{List, []}
use lib.Dec.{leb}
use borrow.Author.Tests.{leb-true}
use Rattle.header.specs.declared.Header.{Header}
use Rattle.units.specs.Round.{up, down}
use Rattle.bits.specs.Bits.{word48}
use Rattle.header.specs.Bins.{bin_of}
use Rattle.header.specs.Bytes.{edition_for, header_word, fields_refusal, header_refusal, parsed_of}
use Rattle.codes.specs.Codes.{cl_of_code, wr_of_code, al}
use Rattle.registers.specs.Allowed.{span_of, cl_fits, cwl_for, table0, table1, table2, table3, fields_in, first_bad, bad_bit, allowed}
use Rattle.records.specs.Record.{fields_of}
use Rattle.records.specs.Command.{by_pins, falling, rising, command_of}
use Rattle.chip.specs.Chip.{chip_of}
use Rattle.chip.specs.Latencies.{h_of, b_of}
use Rattle.answers.specs.declared.Verdict.{Verdict}
use Rattle.answers.specs.Answer.{or_else, lowest}
use Rattle.laws.specs.Any.{any_of}
use Rattle.laws.specs.Eight.{table}
use Rattle.running.specs.Breaks.{status_of, rule2, rule3, waits, spacings}
use Rattle.running.specs.Marks.{needing, spaced}
use Rattle.running.specs.Down.{later_of, latest_of, rule26, exit_rules}
use Rattle.running.specs.Late.{better, soonest, sooner}
use Rattle.running.specs.Next.{start_now, due}
use Rattle.running.specs.Ends.{no_end}
use Rattle.running.specs.Ranges.{last_edge}
use Rattle.edges.specs.Views.{kept_of, latest_from, last_start, read_of, wrote_of, shut_of, rests_of, shared_of}
use Rattle.edges.specs.Asks.{asks_act, asks_rd, asks_wr, asks_pre, asks_ref, asks_mrs, asks_sre, waits_next, greatest}
use Rattle.edges.specs.Next.{banks_next, acts_next, none_open, slow_now, device_next, debt_next}
use Rattle.edges.specs.Says.{dues_of, next24, spaced_in, broken_in, changed_in, left_in, says_by, says_of}
use Rattle.edges.specs.Step.{moved_of, stopped_of, step_of, so_far}
use Rattle.edges.specs.Ranges.{edges_ok, rank_in_range}
use Rattle.edges.specs.Ends.{fresh_banks, fresh_waits, fresh_acts, fresh_device, fresh_rank, next_late, verdict_of, end_of}
use Rattle.judge.specs.Ranges.{ranks_agree, in_range}
use Rattle.judge.specs.Calls.{start_of, section_of, close_of}
use Rattle.rules.specs.Past.{edge, recording}
use Rattle.rules.specs.Verdict.{shown_verdict}
use Rattle.sections.specs.Recording.{records_refusal, whole_refusal, whole_verdict}
use Rattle.wide.specs.Editions.{size, view, spare_in, refusal}
use Rattle.sections.specs.Sections.{Opens}
use Rattle.sections.proofs.Section.{fits}
use Rattle.sections.proofs.Sections.{judged-verdict}
use Rattle.cases.specs.Case.{Holds, judged}
use Rattle.cases.specs.Table.{header_p1, recorded, bytes_p12, bytes_q2, broken, clean}

pub judged-running :
    (header : List ℕ) (h : Header) → Opens header h → (bytes : List ℕ) → refusal (edition_for header) 0 bytes ≡ 0 → (end : ℕ)
    → leb (edge (recording (view (edition_for header) false bytes))) end ≡ true → leb end last_edge ≡ true → (v : Verdict)
    → (close_of (section_of (start_of h (edition_for header)) bytes).state end).end.verdict ≡ v
    → shown_verdict (chip_of h) (recording (view (edition_for header) false bytes)) end ≡ v
judged-running header h is bytes taken end late within v answer =
    sym (judged-verdict header h is bytes (fits (edition_for header) 0 bytes taken) end (leb-true _ _ late) (leb-true _ _ within)).1 ∙ answer

header_p1-taken : Opens (recorded []) header_p1
unfolding edition_for bin_of header_word fields_refusal header_refusal parsed_of word48
header_p1-taken = refl

-- a recording of P1's part, by its refusal and by the verdict on its records
pub judged-whole : (bytes : List ℕ) (end : ℕ) (v : Verdict) → whole_refusal (recorded bytes) end ≡ 0
    → shown_verdict (chip_of header_p1) (recording bytes) end ≡ v → Holds (judged (recorded bytes) end v)
unfolding edition_for view whole_verdict header_word word48
judged-whole bytes end v taken is = (taken, is)

far : (bytes : List ℕ) → refusal 1 0 bytes ≡ 0 → (end : ℕ) → leb (edge (recording bytes)) end ≡ true → leb end last_edge ≡ true → (v : Verdict)
    → (close_of (section_of (start_of header_p1 1) bytes).state end).end.verdict ≡ v → shown_verdict (chip_of header_p1) (recording bytes) end ≡ v
unfolding edition_for view
far bytes taken end late within v answer = judged-running (recorded []) header_p1 header_p1-taken bytes taken end late within v answer

pub far-hold :
    Holds (judged (recorded []) 46799 (clean 0 46799)) × Holds (judged (recorded []) 46800 (broken 25 0 0 46800 8 9))
    × Holds (judged (recorded bytes_p12) 46691 (clean 5 46691)) × Holds (judged (recorded bytes_p12) 46692 (broken 24 0 5 46692 46666 46667))
    × Holds (judged (recorded bytes_q2) 46801 (clean 1 46801)) × Holds (judged (recorded bytes_q2) 46802 (broken 31 0 1 46802 46800 46801))
unfolding edition_for size view spare_in refusal ranks_agree whole_refusal records_refusal header_word fields_refusal header_refusal up down bin_of word48 cl_of_code wr_of_code al span_of cl_fits cwl_for table0 table1 table2 table3 fields_in first_bad bad_bit allowed fields_of by_pins falling rising command_of chip_of h_of b_of or_else lowest table status_of rule2 rule3 waits spacings needing spaced better soonest sooner start_now due no_end kept_of latest_from last_start read_of wrote_of shut_of rests_of shared_of asks_act asks_rd asks_wr asks_pre asks_ref asks_mrs asks_sre waits_next greatest banks_next acts_next any_of none_open slow_now device_next debt_next dues_of next24 spaced_in broken_in later_of latest_of rule26 exit_rules changed_in left_in says_by says_of moved_of stopped_of step_of so_far edges_ok rank_in_range fresh_banks fresh_waits fresh_acts fresh_device fresh_rank next_late verdict_of end_of in_range section_of close_of
far-hold = (
  judged-whole [] 46799 _ refl (far [] refl 46799 refl refl _ refl),
  judged-whole [] 46800 _ refl (far [] refl 46800 refl refl _ refl),
  judged-whole bytes_p12 46691 _ refl (far bytes_p12 refl 46691 refl refl _ refl),
  judged-whole bytes_p12 46692 _ refl (far bytes_p12 refl 46692 refl refl _ refl),
  judged-whole bytes_q2 46801 _ refl (far bytes_q2 refl 46801 refl refl _ refl),
  judged-whole bytes_q2 46802 _ refl (far bytes_q2 refl 46802 refl refl _ refl),
)
