-- A record of each command that is found fine breaks nothing.
-- Assumes nothing.
use Prim.Native.Nat.{ℕ, zero, suc, ◌-◌, ◌≤◌, ◌<◌}
use native.Mathlib.Omega.{arith}
use mathlib.Core.Bool.{Bool, true, false, cond, not, ◌&&◌, true≢false}
use mathlib.Core.Logic.{◌⊎◌, inl, inr, ⊎_elim}
use mathlib.Core.Path.{◌≡◌, refl, ap, ◌∙◌}
use lib.Dec.{eqb, leb, ltb}
use lib.ListN.{get_or}
use borrow.Author.Tests.{le-leb, le-ltb, lt-ltb}
use Rattle.laws.proofs.Eight.{get_or-table}
use Rattle.answers.specs.declared.Bank.{Bank}
use Rattle.answers.specs.declared.Bank.TheVariants.{Idle, Open, Closing}
use Rattle.answers.specs.declared.Break.{Break}
use Rattle.answers.specs.declared.Break.TheVariants.{Fine}
use Rattle.answers.specs.Answer.{or_else, lowest}
use Rattle.records.specs.declared.Record.{Record}
use Rattle.records.specs.declared.Command.{Command}
use Rattle.records.specs.declared.Command.TheVariants.{Mrs, Ref, Pre, Act, Wr, Rd, Zq, Nop, Des, Sre, Srx, Low, Bad, Pde, Pdx}
use Rattle.records.specs.Command.{by_pins, falling, rising, command_of, is_a, a10, bank_in}
use Rattle.registers.specs.Allowed.{allowed}
use Rattle.chip.specs.declared.Chip.{Chip}
use Rattle.running.specs.declared.Written.{Written}
use Rattle.running.specs.Marks.{empty, needing, spaced}
use Rattle.running.specs.Breaks.{wants, barred_by, barred_at, speaks_of_all, status_of, rule1, rule2, rule3}
use Rattle.running.specs.Down.{turns, rule26, rule27}
use Rattle.running.specs.Next.{changing}
use Rattle.edges.specs.declared.Banks.{Banks}
use Rattle.edges.specs.declared.Rank.{Rank}
use Rattle.edges.specs.Views.{kept_of, kepts_of, shared_of, rests_of, written_of, REF, SRE, SRX, CKE}
use Rattle.edges.specs.Asks.{wait_for}
use Rattle.edges.specs.Says.{spaced_in, broken_in, changed_in, left_in, command_in, shared_in, last_rules}
use Rattle.edges.proofs.Easy.{AllFine}

-- all four registers are written
abbrev pub written_all : Written → Bool
written_all w = w.w0 && (w.w1 && (w.w2 && w.w3))

-- ── Rule 2 ──────────────────────────────────────────────────────────────────────────────────

module _ (C : Chip) (B : Banks) (b e : ℕ) where
  -- the bank is idle, or open, or not closing
  abbrev pub Idling : Type 0
  Idling = (get_or B.actno b 0 ≤ get_or B.shutno b 0) × (get_or B.shutat b 0 ≤ e)

  abbrev pub Opened : Type 0
  Opened = get_or B.shutno b 0 < get_or B.actno b 0

  status-idle : Idling → status_of (kept_of C B b) e ≡ Idle
  unfolding status_of kept_of needing
  status-idle h = rw (le-ltb (get_or B.shutno b 0) (get_or B.actno b 0) h.0, le-leb (get_or B.shutat b 0) e h.1)

  status-open : Opened → status_of (kept_of C B b) e ≡ Open (get_or B.actat b 0) (get_or B.actno b 0) (get_or B.row b 0)
  unfolding status_of kept_of needing
  status-open h = rw (lt-ltb (get_or B.shutno b 0) (get_or B.actno b 0) h)

  bars-idle : (w : ℕ) → eqb w 2 ≡ false → Idling → barred_by w (status_of (kept_of C B b) e) ≡ Fine
  bars-idle w n h = ap (barred_by w) (status-idle h) ∙ rw n

  bars-open : (w : ℕ) → eqb w 1 ≡ false → Opened → barred_by w (status_of (kept_of C B b) e) ≡ Fine
  bars-open w n h = ap (barred_by w) (status-open h) ∙ rw n

-- a bank that a PRE may cover
pub calm-bank : (C : Chip) (B : Banks) (b e : ℕ) → (get_or B.shutno b 0 < get_or B.actno b 0) ⊎ (get_or B.shutat b 0 ≤ e)
    → barred_by 3 (status_of (kept_of C B b) e) ≡ Fine
unfolding status_of kept_of needing
calm-bank C B b e h = ⊎_elim
    (λ (l : get_or B.shutno b 0 < get_or B.actno b 0). rw (lt-ltb (get_or B.shutno b 0) (get_or B.actno b 0) l))
    (λ (l : get_or B.shutat b 0 ≤ e). rw (le-leb (get_or B.shutat b 0) e l) (either (ltb (get_or B.shutno b 0) (get_or B.actno b 0))))
    h
  where
    either : (x : Bool) → barred_by 3 (cond x (Open (get_or B.actat b 0) (get_or B.actno b 0) (get_or B.row b 0)) Idle) ≡ Fine
    either true = refl
    either false = refl

barred-none : (k : Bank) → barred_by 0 k ≡ Fine
barred-none Idle = refl
barred-none (Open a n w) = refl
barred-none (Closing a n w) = refl

lowest-none : (f : ℕ → Break) (n : ℕ) → ((b : ℕ) → b < n → f b ≡ Fine) → lowest f n ≡ Fine
unfolding lowest or_else
lowest-none f zero h = refl
lowest-none f (suc n) h = rw (lowest-none f n (λ b l. h b (omega arith)), h n (omega arith))

module _ (C : Chip) (B : Banks) (r : Record) (e : ℕ) where
  at-bank : (c : Command) (b : ℕ) → b < 8 → barred_at c (kepts_of C B) e b ≡ barred_by (wants c) (status_of (kept_of C B b) e)
  at-bank c b l = ap (λ k. barred_by (wants c) (status_of k e)) (get_or-table (kept_of C B) b empty l)

  -- a command that speaks of its own bank
  two-own : (c : Command) → speaks_of_all c r ≡ false → barred_by (wants c) (status_of (kept_of C B (bank_in r)) e) ≡ Fine → rule2 c r (kepts_of C B) e ≡ Fine
  unfolding rule2
  two-own c n h = rw n (at-bank c (bank_in r) (omega arith) ∙ h)

  -- a command that speaks of all banks
  two-all : (c : Command) → speaks_of_all c r ≡ true → ((b : ℕ) → b < 8 → barred_by (wants c) (status_of (kept_of C B b) e) ≡ Fine) → rule2 c r (kepts_of C B) e ≡ Fine
  unfolding rule2
  two-all c y h = rw y (lowest-none _ 8 (λ b l. at-bank c b l ∙ h b l))

-- ── All rules ───────────────────────────────────────────────────────────────────────────────

either_way : (x : Bool) → ◌≡◌ {A = Break} (cond x Fine Fine) Fine
either_way true = refl
either_way false = refl

-- at a command that is no change of CKE it keeps its level
still-level : (l a : Bool) (r : Record) → changing (command_of l a r) ≡ false → is_a Bad (command_of l a r) ≡ false → turns l r ≡ false
unfolding command_of falling rising
still-level l a r = go l a r.cke (eqb r.pins 1) (leb 7 r.pins)
  where
    go : (b s k x y : Bool)
        → changing (cond b (cond k (by_pins r.pins) (cond x Sre (cond y Pde Bad))) (cond k (cond y (cond s Srx Pdx) Bad) Low)) ≡ false
        → is_a Bad (cond b (cond k (by_pins r.pins) (cond x Sre (cond y Pde Bad))) (cond k (cond y (cond s Srx Pdx) Bad) Low)) ≡ false
        → cond b (not k) k ≡ false
    go true s true x y h n = refl
    go true s false true y h n = absurd (true≢false h)
    go true s false false true h n = absurd (true≢false h)
    go true s false false false h n = absurd (true≢false n)
    go false true true x true h n = absurd (true≢false h)
    go false false true x true h n = absurd (true≢false h)
    go false s true x false h n = absurd (true≢false n)
    go false s false x y h n = refl

module _ (C : Chip) (s : Rank) (r : Record) (e : ℕ) where
  -- where the waiting time is over, rules 22 and 23 are left
  spaced-over : (c : Command) → command_in s r ≡ c → wait_for s.waits c r ≤ e → spaced_in C s r e ≡ last_rules c e (shared_in C s)
  unfolding spaced_in
  spaced-over c h l = rw (h, le-leb _ _ l)

  -- of a command c that is no bad one
  broken-none : (c : Command) → command_in s r ≡ c → rule1 c ≡ Fine → rule2 c r (kepts_of C s.banks) e ≡ Fine
      → rule3 C c r (written_of s.device) ≡ Fine → wait_for s.waits c r ≤ e → last_rules c e (shared_in C s) ≡ Fine → broken_in C s r e ≡ Fine
  unfolding broken_in or_else
  broken-none c h one two three l last = rw (spaced-over c h l ∙ last, h, one, two, three)

  left-none : (c : Command) → command_in s r ≡ c → wait_for s.waits c r ≤ e → left_in C s r e ≡ Fine
  unfolding left_in
  left-none c h l = rw (h, le-leb _ _ l)

  -- CKE does not change at it, or was held
  abbrev Turned : Type 0
  Turned = (turns s.level r ≡ false) ⊎ (get_or s.device.need CKE 0 ≤ e - get_or s.device.at CKE 0)

  turned_none : Turned → rule27 (turns s.level r) e (shared_in C s) ≡ Fine
  unfolding shared_of rests_of spaced
  turned_none (inl n) = rw n
  turned_none (inr l) = rw (le-ltb (e - get_or s.device.at CKE 0) (get_or s.device.need CKE 0) l) (either_way (turns s.level r))

  -- no record has anything to ask of an entry
  abbrev Enters : Command → Type 0
  Enters c = rule26 C c (kepts_of C s.banks) (shared_in C s) e ≡ Fine

  -- a command that is none
  no-entry : (c : Command) → is_a Pde c ≡ false → Enters c
  unfolding rule26
  no-entry c n = rw n

  changed-none : (c : Command) → command_in s r ≡ c → Enters c → Turned → changed_in C s r e ≡ Fine
  unfolding changed_in or_else
  changed-none c h n t = rw (h, n) (turned_none t)

  fine-none : (c : Command) → command_in s r ≡ c → rule1 c ≡ Fine → rule2 c r (kepts_of C s.banks) e ≡ Fine
      → rule3 C c r (written_of s.device) ≡ Fine → wait_for s.waits c r ≤ e → last_rules c e (shared_in C s) ≡ Fine
      → Enters c → Turned → AllFine C s r e
  fine-none c h one two three l last entry turn =
      record { broken = broken-none c h one two three l last; changed = changed-none c h entry turn; left = left-none c h l }

  -- a command at which CKE does not change
  fine-still : (c : Command) → command_in s r ≡ c → changing c ≡ false → is_a Bad c ≡ false → is_a Pde c ≡ false → rule1 c ≡ Fine
      → rule2 c r (kepts_of C s.banks) e ≡ Fine → rule3 C c r (written_of s.device) ≡ Fine → wait_for s.waits c r ≤ e
      → last_rules c e (shared_in C s) ≡ Fine → AllFine C s r e
  fine-still c h n b d one two three l last =
      fine-none c h one two three l last (no-entry c d) (inl (still-level s.level s.debt.sleeps r (ap changing h ∙ n) (ap (is_a Bad) h ∙ b)))

  abbrev B : Banks
  B = s.banks

  abbrev own : ℕ
  own = bank_in r

  pub act-fine : command_in s r ≡ Act → Idling C B own e → written_all (written_of s.device) ≡ true → wait_for s.waits Act r ≤ e → AllFine C s r e
  unfolding rule3
  act-fine h i w l = fine-still Act h refl refl refl refl (two-own C B r e Act refl (bars-idle C B own e 1 refl i)) (rw w) l refl

  pub rd-fine : command_in s r ≡ Rd → Opened C B own e → (written_of s.device).dll ≡ true → wait_for s.waits Rd r ≤ e → AllFine C s r e
  unfolding rule3
  rd-fine h o d l = fine-still Rd h refl refl refl refl (two-own C B r e Rd refl (bars-open C B own e 2 refl o)) (rw d) l refl

  pub wr-fine : command_in s r ≡ Wr → Opened C B own e → wait_for s.waits Wr r ≤ e → AllFine C s r e
  unfolding rule3
  wr-fine h o l = fine-still Wr h refl refl refl refl (two-own C B r e Wr refl (bars-open C B own e 2 refl o)) refl l refl

  pub pre-fine : command_in s r ≡ Pre → a10 r ≡ false → (get_or B.shutno own 0 < get_or B.actno own 0) ⊎ (get_or B.shutat own 0 ≤ e)
      → wait_for s.waits Pre r ≤ e → AllFine C s r e
  unfolding rule3
  pre-fine h one k l = fine-still Pre h refl refl refl refl (two-own C B r e Pre (rw one) (calm-bank C B own e k)) refl l refl

  pub nop-fine : command_in s r ≡ Nop → AllFine C s r e
  unfolding rule3
  nop-fine h = fine-still Nop h refl refl refl refl (two-own C B r e Nop refl (barred-none (status_of (kept_of C B own) e))) refl (omega arith) refl

  pub des-fine : command_in s r ≡ Des → AllFine C s r e
  unfolding rule3
  des-fine h = fine-still Des h refl refl refl refl (two-own C B r e Des refl (barred-none (status_of (kept_of C B own) e))) refl (omega arith) refl

  pub low-fine : command_in s r ≡ Low → AllFine C s r e
  unfolding rule3
  low-fine h = fine-still Low h refl refl refl refl (two-own C B r e Low refl (barred-none (status_of (kept_of C B own) e))) refl (omega arith) refl

  abbrev AllIdle : Type 0
  AllIdle = (b : ℕ) → b < 8 → Idling C B b e

  pub all-fine : command_in s r ≡ Pre → a10 r ≡ true → ((b : ℕ) → b < 8 → (get_or B.shutno b 0 < get_or B.actno b 0) ⊎ (get_or B.shutat b 0 ≤ e))
      → wait_for s.waits Pre r ≤ e → AllFine C s r e
  unfolding rule3
  all-fine h y k l = fine-still Pre h refl refl refl refl (two-all C B r e Pre (rw y) (λ b z. calm-bank C B b e (k b z))) refl l refl

  pub ref-fine : command_in s r ≡ Ref → AllIdle → wait_for s.waits Ref r ≤ e → AllFine C s r e
  unfolding rule3
  ref-fine h i l = fine-still Ref h refl refl refl refl (two-all C B r e Ref refl (λ b z. bars-idle C B b e 1 refl (i b z))) refl l refl

  pub zq-fine : command_in s r ≡ Zq → AllIdle → wait_for s.waits Zq r ≤ e → AllFine C s r e
  unfolding rule3
  zq-fine h i l = fine-still Zq h refl refl refl refl (two-all C B r e Zq refl (λ b z. bars-idle C B b e 1 refl (i b z))) refl l refl

  pub mrs-fine : command_in s r ≡ Mrs → AllIdle → allowed C.header own r.a ≡ true → wait_for s.waits Mrs r ≤ e → AllFine C s r e
  unfolding rule3
  mrs-fine h i a l = fine-still Mrs h refl refl refl refl (two-all C B r e Mrs refl (λ b z. bars-idle C B b e 1 refl (i b z))) (rw a) l refl

  -- rule 23: the latest SRX is not after the latest REF
  pub sre-fine : command_in s r ≡ Sre → AllIdle → get_or s.device.no SRX 0 ≤ get_or s.device.no REF 0 → wait_for s.waits Sre r ≤ e
      → get_or s.device.need CKE 0 ≤ e - get_or s.device.at CKE 0 → AllFine C s r e
  unfolding rule3 shared_of rests_of
  sre-fine h i z l k =
      fine-none Sre h refl (two-all C B r e Sre refl (λ b z. bars-idle C B b e 1 refl (i b z))) refl l
      (rw (le-ltb (get_or s.device.no REF 0) (get_or s.device.no SRX 0) z)) (no-entry Sre refl) (inr k)

  -- rule 22
  pub srx-fine : command_in s r ≡ Srx → get_or s.device.need SRE 0 ≤ e - get_or s.device.at SRE 0
      → get_or s.device.need CKE 0 ≤ e - get_or s.device.at CKE 0 → AllFine C s r e
  unfolding rule3 shared_of rests_of spaced
  srx-fine h z k =
      fine-none Srx h refl (two-own C B r e Srx refl (barred-none (status_of (kept_of C B own) e))) refl (omega arith)
      (rw (le-ltb (e - get_or s.device.at SRE 0) (get_or s.device.need SRE 0) z)) (no-entry Srx refl) (inr k)

  -- rules 26 and 27
  pub pde-fine : command_in s r ≡ Pde → Enters Pde → get_or s.device.need CKE 0 ≤ e - get_or s.device.at CKE 0 → AllFine C s r e
  unfolding rule3
  pde-fine h y k =
      fine-none Pde h refl (two-own C B r e Pde refl (barred-none (status_of (kept_of C B own) e))) refl (omega arith) refl y (inr k)

  pub pdx-fine : command_in s r ≡ Pdx → get_or s.device.need CKE 0 ≤ e - get_or s.device.at CKE 0 → AllFine C s r e
  unfolding rule3
  pdx-fine h k =
      fine-none Pdx h refl (two-own C B r e Pdx refl (barred-none (status_of (kept_of C B own) e))) refl (omega arith) refl (no-entry Pdx refl) (inr k)
