-- Rules 24, 25, 28 and 31, which can pass at an edge with no record: 01, "Commands and the 25 rules", last of the rules; and 02, Q-1 and Q-2.
-- Assumes nothing.
use Rattle.std.specs.Prelude.{ℕ, ◌+◌, ◌-◌, ◌/◌, Bool, false, cond, ◌&&◌, [], ◌∷◌, eqb, leb, ltb}
use Rattle.records.specs.declared.Command.TheVariants.{Ref, Pde}
use Rattle.chip.specs.declared.Chip.{Chip}
use Rattle.answers.specs.declared.Bank.{Bank}
use Rattle.answers.specs.declared.Bank.TheVariants.{Idle, Open, Closing}
use Rattle.answers.specs.declared.Break.{Break}
use Rattle.answers.specs.declared.Break.TheVariants.{Fine, Broken}
use Rattle.rules.specs.Past.{Past, edge, number, asleep, is, latest, up_to}
use Rattle.rules.specs.Banks.{act_num, status}
use Rattle.answers.specs.Answer.{lowest}
use Rattle.rules.specs.Down.{turned}

-- ── Rule 24 ─────────────────────────────────────────────────────────────────────────────────

-- "24 A bank's precharge must start no later than ACT + greatest t_ras; broken one edge after": at t, of a bank's status one edge before
abbrev pub over : (most : ℕ) → Bank → ℕ → Bool
over m Idle t = false
over m (Open at num row) t = eqb (at + m + 1) t
over m (Closing at num row) t = eqb (at + m + 1) t

-- "24 the ACT"; "needed its limit, found one more"
abbrev pub late : (most : ℕ) → Bank → ℕ → Break
late m k t = cond (over m k t) (Broken 24 (act_num k) m (m + 1)) Fine

-- rule 24 at edge t of the recording p
abbrev pub rule24 : Chip → Past → ℕ → Break
rule24 C p t = let q = up_to (t - 1) p in lowest (λ n. late C.most (status C n q (t - 1)) t) 8

-- ── Rule 25 ─────────────────────────────────────────────────────────────────────────────────

-- "The awake clock counts edges from 1, but not those after SRE up to and including SRX": at the latest record, and at an edge t
-- after it
unfoldable pub awake_to : Past → ℕ
awake_to [] = 0
awake_to (r ∷ p) = awake_to p + cond (asleep p) 0 r.step

unfoldable pub awake_at : Past → ℕ → ℕ
awake_at p t = awake_to p + cond (asleep p) 0 (t - edge p)

-- "Refresh debt starts at 0, rises by 1 at each positive multiple of tREFI's clocks on the awake clock, then falls by 1 at a REF,
-- never below -8". `owed` is the debt PLUS 8, a natural number: 0 is a debt of -8, 8 one of 0, 17 one of 9. After the latest record,
-- and at an edge t after it; T is tREFI's clocks
unfoldable pub owed_to : ℕ → Past → ℕ
owed_to T [] = 8
owed_to T (r ∷ p) = owed_to T p + (awake_at p (edge (r ∷ p)) / T - awake_to p / T) - cond (is Ref (r ∷ p)) 1 0

unfoldable pub owed_at : ℕ → Past → ℕ → ℕ
owed_at T p t = owed_to T p + (awake_at p t / T - awake_to p / T)

-- rule 25 at edge t of the recording p: "broken at 9 after the edge's command"; "25 the last REF or none"; "needed 8, found 9"
abbrev pub rule25 : Chip → Past → ℕ → Break
rule25 C p t = let q = up_to t p in cond (leb 17 (owed_at C.trefi q t)) (Broken 25 (number (latest (is Ref) q)) 8 9) Fine

-- ── Rule 28 ─────────────────────────────────────────────────────────────────────────────────

-- Q-1: "greatest stay nine times tREFI's clocks (a deadline shown as 24 is, partner the entry)": at t, of the latest change of CKE, s,
-- one edge before
abbrev pub stayed : (stay : ℕ) (s : Past) → ℕ → Break
stayed m s t = cond (is Pde s && eqb (edge s + m + 1) t) (Broken 28 (number s) m (m + 1)) Fine

-- rule 28 at edge t of the recording p
abbrev pub rule28 : Chip → Past → ℕ → Break
rule28 C p t = stayed C.nine (turned (up_to (t - 1) p)) t

-- ── Rule 31 ─────────────────────────────────────────────────────────────────────────────────

-- Q-2: "the distance between neighbouring REFs .. counted here on the awake clock from edge 0 or the last REF": at an edge t after the
-- latest record. Of no REF the latest is the empty past, whose awake clock is 0
unfoldable pub since_ref : Past → ℕ → ℕ
since_ref p t = awake_at p t - awake_to (latest (is Ref) p)

-- "broken one edge past nine times tREFI's clocks; its record is none, its partner the last REF or none, needed the limit, found one more":
-- at t, of the records p up to one edge before
abbrev pub parted : (nine : ℕ) (p : Past) → ℕ → Break
parted m p t = cond (ltb m (since_ref p t)) (Broken 31 (number (latest (is Ref) p)) m (m + 1)) Fine

-- rule 31 at edge t of the recording p: a REF at t itself comes too late
abbrev pub rule31 : Chip → Past → ℕ → Break
rule31 C p t = parted C.nine (up_to (t - 1) p) t
