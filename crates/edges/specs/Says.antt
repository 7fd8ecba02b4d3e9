-- What is said of a record: the gap before it, its edge, and rules 1 to 31.
-- Assumes nothing.
use Rattle.std.specs.Prelude.{ℕ, ◌+◌, Bool, cond, not, ◌&&◌, List, leb, ltb, get_or}
use Rattle.laws.specs.Eight.{table}
use Rattle.answers.specs.declared.Break.{Break}
use Rattle.answers.specs.declared.Break.TheVariants.{Fine}
use Rattle.answers.specs.declared.Verdict.{Verdict}
use Rattle.answers.specs.Answer.{or_else}
use Rattle.records.specs.declared.Record.{Record}
use Rattle.records.specs.declared.Command.{Command}
use Rattle.records.specs.declared.Command.TheVariants.{Ref, Srx}
use Rattle.records.specs.Command.{command_of, is_a, bank_in}
use Rattle.chip.specs.declared.Chip.{Chip}
use Rattle.running.specs.declared.Shared.{Shared}
use Rattle.running.specs.declared.Late.{Late}
use Rattle.running.specs.Breaks.{when_is, joined, rule2, rule3, rule23, spacings}
use Rattle.running.specs.Late.{why, sooner, late_by, stay_until, soonest}
use Rattle.running.specs.Down.{turns, rule26, rule27, exit_rules}
use Rattle.running.specs.Next.{due}
use Rattle.running.specs.Said.{first, verdict_at, late_at}
use Rattle.edges.specs.declared.Banks.{Banks}
use Rattle.edges.specs.declared.Debt.{Debt}
use Rattle.edges.specs.declared.Device.{Device}
use Rattle.edges.specs.declared.Rank.{Rank}
use Rattle.edges.specs.Views.{kept_of, kepts_of, shared_of, written_of, REF, CKE}
use Rattle.edges.specs.Asks.{wait_for}

-- ── Deadlines ───────────────────────────────────────────────────────────────────────────────

-- for each bank the edge at which it breaks rule 24, if that lies after the latest record; 0: none
unfoldable pub dues_of : Chip → Banks → List ℕ
dues_of C B = table (λ b. due C (kept_of C B b))

-- rule 24 after the edge lo and before hi; at hi if there is none
unfoldable pub next24 : Chip → Banks → (lo hi : ℕ) → Late
next24 C B lo hi = late_by 24 (soonest (dues_of C B) lo hi 8).at (get_or B.actno (soonest (dues_of C B) lo hi 8).bank 0) C.most

-- rule 25 after the latest record; at hi where the part sleeps
abbrev pub next25 : Debt → (partner hi : ℕ) → Late
next25 D n hi = record { at = cond D.sleeps hi D.due; rule = 25; partner = n; needed = 8; found = 9 }

-- rule 28 after the latest record; at hi where the part is not in power-down
abbrev pub next28 : Chip → (level sleeps : Bool) → Device → (hi : ℕ) → Late
next28 C l z D hi = late_by 28 (stay_until l z (get_or D.at CKE 0) C.nine hi) (get_or D.no CKE 0) C.nine

-- rule 31 after the latest record; at hi where the part sleeps
abbrev pub next31 : Chip → Debt → (partner hi : ℕ) → Late
next31 C D n hi = late_by 31 (cond D.sleeps hi D.gap) n C.nine

-- the soonest of four, of equals the first
abbrev pub soonest_of : (x24 x25 x28 x31 : Late) → Late
soonest_of x y z w = sooner x (sooner y (sooner z w))

-- ── A record ────────────────────────────────────────────────────────────────────────────────

-- rules 22 and 23, of which no waiting time tells
abbrev pub last_rules : Command → (e : ℕ) → Shared → Break
last_rules c e s = when_is (is_a Srx c) 22 e s.rests.slept (rule23 c s)

abbrev pub command_in : Rank → Record → Command
command_in s r = command_of s.level s.debt.sleeps r

abbrev pub shared_in : Chip → Rank → Shared
shared_in C s = shared_of C s.banks s.acts s.device

-- rules 4 to 23 of the record at the edge e: the marks are asked only where the waiting time is not over
unfoldable pub spaced_in : Chip → Rank → Record → (e : ℕ) → Break
spaced_in C s r e =
    cond (leb (wait_for s.waits (command_in s r) r) e) (last_rules (command_in s r) e (shared_in C s))
    (spacings C (command_in s r) r e (kept_of C s.banks (bank_in r)) (shared_in C s))

unfoldable pub broken_in : Chip → Rank → Record → (e : ℕ) → Break
broken_in C s r e =
    joined (command_in s r) (rule2 (command_in s r) r (kepts_of C s.banks) e) (rule3 C (command_in s r) r (written_of s.device)) (spaced_in C s r e)

-- "broken at 9 after the edge's command": a REF pays for it
abbrev pub owing : Command → (e : ℕ) → Late → Break
owing c e x = cond (leb x.at e && not (is_a Ref c)) (why x) Fine

-- rules 26 and 27; and 29 and 30, of which the marks are asked only where the waiting time is not over
unfoldable pub changed_in : Chip → Rank → Record → (e : ℕ) → Break
changed_in C s r e =
    or_else (rule26 C (command_in s r) (kepts_of C s.banks) (shared_in C s) e) (rule27 (turns s.level r) e (shared_in C s))

unfoldable pub left_in : Chip → Rank → Record → (e : ℕ) → Break
left_in C s r e = cond (leb (wait_for s.waits (command_in s r) r) e) Fine (exit_rules (command_in s r) e (shared_in C s))

-- a deadline that passes before e; else by number what the record, number n, breaks, and the deadlines at e: b of rules 1 to 23, o of rule 25,
-- d of 26 and 27, f of 29 and 30
unfoldable pub says_by : (e n : ℕ) → (x24 x25 x28 x31 : Late) → (b o d f : Break) → Verdict
says_by e n x24 x25 x28 x31 b o d f =
    let soon = soonest_of x24 x25 x28 x31 in
    cond (ltb soon.at e) (verdict_at soon.at 0 (why soon))
    (first (verdict_at e n b) (first (verdict_at e 0 (late_at e x24)) (first (verdict_at e 0 o)
    (first (verdict_at e n d) (first (verdict_at e 0 (late_at e x28)) (first (verdict_at e n f) (verdict_at e 0 (late_at e x31))))))))

abbrev pub refreshed : Rank → ℕ
refreshed s = get_or s.device.no REF 0

unfoldable pub says_of : Chip → Rank → Record → Verdict
says_of C s r =
    let e = s.edge + r.step in
    let x25 = next25 s.debt (refreshed s) (e + 1) in
    says_by e (s.count + 1) (next24 C s.banks s.edge (e + 1)) x25 (next28 C s.level s.debt.sleeps s.device (e + 1))
    (next31 C s.debt (refreshed s) (e + 1)) (broken_in C s r e) (owing (command_in s r) e x25) (changed_in C s r e) (left_in C s r e)
