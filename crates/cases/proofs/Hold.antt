-- The one statement about 01's proved examples: every case of the table holds of the definitions, by computing them.
-- Assumes nothing.
use Prim.Native.Nat.{ℕ}
use Prim.Native.String.{String}
use mathlib.Core.Bool.{false}
use mathlib.Core.List.{List}
use mathlib.Core.Path.{◌≡◌, refl, ap, ◌∙◌}
use Rattle.units.specs.Round.{up, down}
use Rattle.bits.specs.Bits.{word48}
use Rattle.header.specs.Bins.{bin_of}
use Rattle.header.specs.Bytes.{edition_for, header_word, fields_refusal, header_refusal, parsed_of}
use Rattle.codes.specs.Codes.{cl_of_code, wr_of_code, al}
use Rattle.registers.specs.Allowed.{span_of, cl_fits, cwl_for, table0, table1, table2, table3, fields_in, first_bad, bad_bit, allowed}
use Rattle.registers.specs.Reading.{values0, values_of, decoded_of}
use Rattle.bursts.specs.Burst.{order_of}
use Rattle.records.specs.Record.{fields_of as record_fields}
use Rattle.records.specs.Command.{by_pins, falling, rising, command_of}
use Rattle.chip.specs.Chip.{chip_of}
use Rattle.chip.specs.Latencies.{h_of, b_of}
use Rattle.rules.specs.Registers.{regs}
use Rattle.rules.specs.Banks.{start, seen}
use Rattle.answers.specs.Answer.{or_else, lowest}
use Rattle.rules.specs.Past.{asleep}
use Rattle.rules.specs.Down.{precharged, slow_exit}
use Rattle.rules.specs.Rules.{to_entry}
use Rattle.rules.specs.Deadlines.{awake_to, awake_at, owed_to, owed_at, since_ref}
use Rattle.rules.specs.Verdict.{keep}
use Rattle.answers.specs.declared.Verdict.{Verdict}
use Rattle.sections.specs.Recording.{records_refusal, whole_refusal, whole_verdict}
use Rattle.lines.specs.Line.{text, decimal_in, spaced, clean_words, broken_words, verdict_words, verdict_line}
use Rattle.wide.specs.Editions.{size, view, spare_in, refusal}
use Rattle.wide.specs.Moved.{packed_wide, bytes8, widened}
use Rattle.prints.specs.Wanted.{first_refusal, wanted_lines}
use Rattle.prints.proofs.Program.{program-means}
use Rattle.cases.specs.Case.{Holds, AllHold, judged, printed}
use Rattle.cases.specs.Table.{header_p1, recorded, bytes_p8, bytes_p9, bytes_p10, broken, clean, table}
use Rattle.cases.proofs.Running.{judged-whole, far-hold}
use Rattle.cases.proofs.Early.{early, judged-early}

-- ── P8, P9, P10 ─────────────────────────────────────────────────────────────────────────────

p8 : Holds (judged (recorded bytes_p8) 529 (broken 10 7 6 529 5 4))
unfolding edition_for size view spare_in up down bin_of header_word fields_refusal header_refusal word48 cl_of_code wr_of_code al span_of cl_fits cwl_for table0 table1 table2 table3 fields_in first_bad bad_bit allowed record_fields by_pins falling rising command_of chip_of h_of b_of regs start seen or_else lowest asleep awake_to awake_at owed_to owed_at since_ref precharged slow_exit to_entry keep early records_refusal whole_refusal
p8 = judged-whole bytes_p8 529 _ refl (judged-early header_p1 bytes_p8 529 _ refl refl)

p9 : Holds (judged (recorded bytes_p9) 530 (clean 7 530))
unfolding edition_for size view spare_in up down bin_of header_word fields_refusal header_refusal word48 cl_of_code wr_of_code al span_of cl_fits cwl_for table0 table1 table2 table3 fields_in first_bad bad_bit allowed record_fields by_pins falling rising command_of chip_of h_of b_of regs start seen or_else lowest asleep awake_to awake_at owed_to owed_at since_ref precharged slow_exit to_entry keep early records_refusal whole_refusal
p9 = judged-whole bytes_p9 530 _ refl (judged-early header_p1 bytes_p9 530 _ refl refl)

p10 : Holds (judged (recorded bytes_p10) 539 (broken 5 9 8 539 9 5))
unfolding edition_for size view spare_in up down bin_of header_word fields_refusal header_refusal word48 cl_of_code wr_of_code al span_of cl_fits cwl_for table0 table1 table2 table3 fields_in first_bad bad_bit allowed record_fields by_pins falling rising command_of chip_of h_of b_of regs start seen or_else lowest asleep awake_to awake_at owed_to owed_at since_ref precharged slow_exit to_entry keep early records_refusal whole_refusal
p10 = judged-whole bytes_p10 539 _ refl (judged-early header_p1 bytes_p10 539 _ refl refl)

-- the line that the program prints, by its theorem: that of the verdict
line_of : (bs : List ℕ) (end : ℕ) (v : Verdict) (line : String) → (wanted_lines bs).0 ≡ verdict_line (whole_verdict false bs end) → Holds (judged bs end v)
    → verdict_line v ≡ text line → Holds (printed bs line)
line_of bs end v line w h l = ap (λ (q : List ℕ × List ℕ). q.0) (program-means bs) ∙ w ∙ ap verdict_line h.1 ∙ l

p8-line : Holds (printed (recorded bytes_p8) "broken 10 7 6 529 5 4\n")
unfolding edition_for size view spare_in refusal wanted_lines first_refusal whole_verdict header_word fields_refusal header_refusal bin_of word48 record_fields decimal_in spaced clean_words broken_words verdict_words
p8-line = line_of (recorded bytes_p8) 529 _ "broken 10 7 6 529 5 4\n" refl p8 refl

p9-line : Holds (printed (recorded bytes_p9) "clean 7 530\n")
unfolding edition_for size view spare_in refusal wanted_lines first_refusal whole_verdict header_word fields_refusal header_refusal bin_of word48 record_fields decimal_in spaced clean_words broken_words verdict_words
p9-line = line_of (recorded bytes_p9) 530 _ "clean 7 530\n" refl p9 refl

p10-line : Holds (printed (recorded bytes_p10) "broken 5 9 8 539 9 5\n")
unfolding edition_for size view spare_in refusal wanted_lines first_refusal whole_verdict header_word fields_refusal header_refusal bin_of word48 record_fields decimal_in spaced clean_words broken_words verdict_words
p10-line = line_of (recorded bytes_p10) 539 _ "broken 5 9 8 539 9 5\n" refl p10 refl

-- ── The table ───────────────────────────────────────────────────────────────────────────────

infixr 10 ◌also◌
◌also◌ : {A B : Type 0} → A → B → A × B
a also b = (a, b)

pub examples-hold : AllHold table
unfolding edition_for size view spare_in packed_wide bytes8 widened table up down bin_of header_word fields_refusal header_refusal parsed_of word48 cl_of_code wr_of_code al span_of cl_fits cwl_for table0 table1 table2 table3 fields_in first_bad bad_bit allowed values0 values_of decoded_of order_of record_fields by_pins falling rising command_of chip_of h_of b_of regs start seen or_else lowest asleep awake_to awake_at owed_to owed_at keep early
examples-hold =
    refl also refl also refl also refl also refl also refl also refl also refl also refl
    also refl also refl also refl also refl also refl also refl also refl also refl
    also refl also refl also refl also refl also refl also refl also refl also refl
    also refl also p8 also p8-line also p9 also p9-line also p10 also p10-line
    also far-hold.0 also far-hold.1 also far-hold.2 also far-hold.3 also refl also refl also refl also refl also far-hold.4 also far-hold.5 also refl also tt
