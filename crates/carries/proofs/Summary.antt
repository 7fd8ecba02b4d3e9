-- The state as edges is a summary of the past: each part of it, looked back for.
-- Assumes nothing.
use Prim.Native.Nat.{ℕ, ◌+◌, ◌-◌, ◌*◌, ◌%◌}
use mathlib.Core.Bool.{Bool, cond}
use mathlib.Core.List.{List, [], ◌∷◌, ◌++◌}
use Rattle.laws.specs.Eight.{table}
use Rattle.records.specs.declared.Command.TheVariants.{Mrs, Ref, Pre, Act, Wr, Rd, Zq, Sre, Srx, Pdx}
use Rattle.chip.specs.declared.Chip.{Chip}
use Rattle.running.specs.Said.{no_verdict}
use Rattle.edges.specs.declared.Banks.{Banks}
use Rattle.edges.specs.declared.Waits.{Waits}
use Rattle.edges.specs.declared.Acts.{Acts}
use Rattle.edges.specs.declared.Device.{Device}
use Rattle.edges.specs.declared.Debt.{Debt}
use Rattle.edges.specs.declared.Rank.{Rank}
use Rattle.rules.specs.Past.{Past, edge, number, cke, asleep, is, address_of, latest, back, has}
use Rattle.rules.specs.Registers.{mrs_to, dll_reset}
use Rattle.rules.specs.Banks.{act_on, closes, start}
use Rattle.rules.specs.Down.{turned, slow_exit}
use Rattle.rules.specs.Deadlines.{awake_to, owed_to}
use Rattle.rules.specs.Waiting.{wait}
use Rattle.rules.proofs.Dominate.{need4, need10, need11, need13, need14, need18, need19}
use Rattle.rules.proofs.Debts.{gap_to}
use Rattle.rules.proofs.Summary.{rd_on, wr_on}

-- something of an event; 0 of none
abbrev pub of : (Past → ℕ) → Past → ℕ
of f [] = 0
of f (r ∷ p) = f (r ∷ p)

-- of each bank something of its latest event of the kind k b
abbrev pub each : {A : Type 0} (f : Past → A) (k : ℕ → Past → Bool) → Past → List A
each f k p = table (λ b. f (latest (k b) p))

-- of each bank something of its latest RD, then something of its latest WR
abbrev pub each_column : {A : Type 0} (f g : Past → A) → Past → List A
each_column f g p = each f rd_on p ++ each g wr_on p

-- ── The last four ACTs ──────────────────────────────────────────────────────────────────────

-- the ACTs so far, in rounds of four: the place that the next one takes
unfoldable pub turn_of : Past → ℕ
turn_of [] = 0
turn_of (r ∷ p) = cond (is Act (r ∷ p)) ((turn_of p + 1) % 4) (turn_of p)

-- four of a kind, f n the one that has n after it, where t is the place of the oldest
unfoldable pub ring : {A : Type 0} → (t : ℕ) → (f : ℕ → A) → List A
ring t f = f ((t + 3) % 4) ∷ f ((t + 2) % 4) ∷ f ((t + 1) % 4) ∷ f (t % 4) ∷ []

unfoldable pub acts_of : Past → Acts
acts_of p = record { at = ring (turn_of p) (λ n. edge (back (is Act) n p)); no = ring (turn_of p) (λ n. number (back (is Act) n p)); turn = turn_of p }

-- ── The device ──────────────────────────────────────────────────────────────────────────────

-- something of the latest REF, MRS, ZQ, SRE, SRX, DLL reset, change of CKE, power-down exit and slow one
abbrev pub each_rest : {A : Type 0} → Chip → (ref mrs zq sre srx dll cke pdx slow : Past → A) → Past → List A
each_rest C ref mrs zq sre srx dll cke pdx slow p =
    ref (latest (is Ref) p) ∷ mrs (latest (is Mrs) p) ∷ zq (latest (is Zq) p) ∷ sre (latest (is Sre) p) ∷ srx (latest (is Srx) p)
    ∷ dll (latest dll_reset p) ∷ cke (turned p) ∷ pdx (latest (is Pdx) p) ∷ slow (latest (slow_exit C) p) ∷ []

-- of each register
abbrev pub each_register : {A : Type 0} (f : ℕ → A) → List A
each_register f = f 0 ∷ f 1 ∷ f 2 ∷ f 3 ∷ []

-- ── The debt ────────────────────────────────────────────────────────────────────────────────

-- the awake clocks after p until 9 would be owed
unfoldable pub clocks_left : (trefi : ℕ) → Past → ℕ
clocks_left T p = (17 - owed_to T p) * T - awake_to p % T

-- and until the last REF is too far back
unfoldable pub gap_left : (nine : ℕ) → Past → ℕ
gap_left m p = m + 1 - gap_to p

unfoldable pub debt_of : Chip → Past → Debt
debt_of C p =
    record {
      sleeps = asleep p;
      due = cond (asleep p) 0 (edge p) + clocks_left C.trefi p;
      gap = cond (asleep p) 0 (edge p) + gap_left C.nine p;
    }

-- ── The state ───────────────────────────────────────────────────────────────────────────────

module _ (C : Chip) where
  unfoldable pub banks_of : Past → Banks
  banks_of p =
      record {
        actat = each edge act_on p;
        actno = each number act_on p;
        actneed = each (of (need4 C)) act_on p;
        row = each address_of act_on p;
        colat = each_column edge edge p;
        colno = each_column number number p;
        colpre = each_column (of (need10 C)) (of (need11 C)) p;
        colturn = each_column (of (need13 C)) (of (need14 C)) p;
        colout = each_column (of (need19 C)) (of (λ _. 0)) p;
        shutat = each (of (start C)) closes p;
        shutno = each number closes p;
      }

  unfoldable pub waits_of : Past → Waits
  waits_of p =
      record {
        act = table (λ b. wait C Act b p);
        col = table (λ b. wait C Rd b p) ++ table (λ b. wait C Wr b p);
        pre = table (λ b. wait C Pre b p);
        holds = wait C Ref 0 p ∷ wait C Mrs 0 p ∷ wait C Zq 0 p ∷ wait C Sre 0 p ∷ [];
      }

  unfoldable pub device_of : Past → Device
  device_of p =
      record {
        at = each_rest C edge edge edge edge edge edge edge edge edge p;
        no = each_rest C number number number number number number number number number p;
        need =
            each_rest C (of (λ _. C.trfc)) (of (λ _. 4)) (of (need18 C)) (of (λ _. C.tcke + 1)) (of (λ _. C.txs)) (of (λ _. 512))
            (of (λ _. C.tcke)) (of (λ _. C.txp)) (of (λ _. C.txpdll)) p;
        codes = each_register (λ n. address_of (latest (mrs_to n) p));
        written = each_register (λ n. has (mrs_to n) p);
      }

  -- the state after a past in which nothing is broken
  unfoldable pub summary : Past → Rank
  summary p =
      record {
        edge = edge p;
        count = number p;
        first = no_verdict;
        level = cke p;
        debt = debt_of C p;
        banks = banks_of p;
        waits = waits_of p;
        acts = acts_of p;
        device = device_of p;
      }
