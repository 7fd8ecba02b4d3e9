-- Rules 24, 25, 28 and 31 from what is kept, over the edges after the latest record.
-- Assumes nothing.
use Rattle.std.specs.Prelude.{ℕ, cond, leb, get_or}
use Rattle.answers.specs.declared.Break.{Break}
use Rattle.answers.specs.declared.Break.TheVariants.{Fine, Broken}
use Rattle.chip.specs.declared.Chip.{Chip}
use Rattle.running.specs.Marks.{empty}
use Rattle.running.specs.declared.Late.{Late}
use Rattle.running.specs.Late.{late_by, late25, late31, soonest, stay_until}
use Rattle.running.specs.declared.Rank.{Rank}

-- rule 24 after lo and before hi; at hi if there is none
unfoldable pub next24 : Chip → Rank → (hi : ℕ) → Late
next24 C s hi =
    late_by 24 (soonest s.dues s.edge hi 8).at (get_or s.banks (soonest s.dues s.edge hi 8).bank empty).acted.num C.most

-- rule 25 after the latest record, where at most 16 are owed; at hi where the part sleeps
unfoldable pub next25 : Chip → Rank → (hi : ℕ) → Late
next25 C s hi = late25 C.trefi s.shared.debt s.shared.rests.refreshed.num s.edge hi

-- rule 28 after the latest record; at hi where the part is not in power-down
unfoldable pub next28 : Chip → Rank → (hi : ℕ) → Late
next28 C s hi =
    let m = s.shared.rests.turned in
    late_by 28 (stay_until s.shared.level s.shared.debt.sleeps m.at C.nine hi) m.num C.nine

-- rule 31 after the latest record, up to which the last REF was not too far back; at hi where the part sleeps
unfoldable pub next31 : Chip → Rank → (hi : ℕ) → Late
next31 C s hi = late31 C.nine s.shared.debt s.shared.rests.refreshed.num s.edge hi

-- rule 25 where so much is owed
abbrev pub owing : (owed partner : ℕ) → Break
owing o n = cond (leb 17 o) (Broken 25 n 8 9) Fine
