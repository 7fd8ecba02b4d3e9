-- The judge's state is a summary of the past: each part of it, looked back for.
-- Assumes nothing.
use Prim.Native.Nat.{ℕ, ◌+◌}
use mathlib.Core.Path.{◌≡◌, refl, sym}
use mathlib.Core.Bool.{Bool, ◌&&◌, ◌||◌}
use mathlib.Core.List.{List, [], ◌∷◌}
use Rattle.laws.specs.Eight.{table}
use Rattle.records.specs.declared.Command.TheVariants.{Mrs, Ref, Act, Wr, Rd, Zq, Sre, Srx, Pdx}
use Rattle.chip.specs.declared.Chip.{Chip}
use Rattle.running.specs.declared.Mark.{Mark}
use Rattle.running.specs.declared.Kept.{Kept}
use Rattle.running.specs.declared.Read.{Read}
use Rattle.running.specs.declared.Wrote.{Wrote}
use Rattle.running.specs.declared.Written.{Written}
use Rattle.running.specs.declared.Rests.{Rests}
use Rattle.running.specs.declared.Shared.{Shared}
use Rattle.running.specs.Marks.{none}
use Rattle.running.specs.declared.Rank.{Rank}
use Rattle.running.specs.Said.{no_verdict}
use Rattle.running.specs.Next as running
use Rattle.rules.specs.Past.{Past, edge, number, cke, is, address_of, on, latest, back, has, greatest}
use Rattle.rules.specs.Registers.{mrs_to, dll_reset, regs}
use Rattle.rules.specs.Banks.{act_on, closes, shuts, start}
use Rattle.rules.specs.Down.{turned, slow_exit}
use Rattle.rules.proofs.Starts.{start_none}
use Rattle.rules.proofs.Debts.{debt_of}
use Rattle.rules.proofs.Dominate.{need4, need10, need11, need13, need14, need18, need19}

-- what is kept of an event
abbrev pub mark : (Past → ℕ) → Past → Mark
mark need [] = none
mark need (r ∷ p) = record { at = edge (r ∷ p); num = number (r ∷ p); need = need (r ∷ p) }

pub mark-at : (need : Past → ℕ) (s : Past) → (mark need s).at ≡ edge s
mark-at need [] = refl
mark-at need (r ∷ p) = refl

abbrev pub rd_on : ℕ → Past → Bool
rd_on b s = is Rd s && on b s

abbrev pub wr_on : ℕ → Past → Bool
wr_on b s = is Wr s && on b s

module _ (C : Chip) where
  -- a closing event, marked at its start
  abbrev pub start_mark : Past → Mark
  start_mark [] = none
  start_mark (r ∷ p) = record { at = start C (r ∷ p); num = number (r ∷ p); need = C.trp }

  pub start-mark-at : (s : Past) → (start_mark s).at ≡ start C s
  start-mark-at [] = sym (start_none C)
  start-mark-at (q ∷ s) = refl

  abbrev pub read_of : Past → Read
  read_of [] = record { at = 0; num = 0; n10 = 0; n13 = 0; n19 = 0 }
  read_of (r ∷ p) =
      record { at = edge (r ∷ p); num = number (r ∷ p); n10 = need10 C (r ∷ p); n13 = need13 C (r ∷ p); n19 = need19 C (r ∷ p) }

  abbrev pub wrote_of : Past → Wrote
  wrote_of [] = record { at = 0; num = 0; n11 = 0; n14 = 0 }
  wrote_of (r ∷ p) = record { at = edge (r ∷ p); num = number (r ∷ p); n11 = need11 C (r ∷ p); n14 = need14 C (r ∷ p) }

  -- what is kept of bank b
  unfoldable pub kept : Past → ℕ → Kept
  kept p b =
      record {
        acted = mark (need4 C) (latest (act_on b) p);
        row = address_of (latest (act_on b) p);
        read = mark (need10 C) (latest (rd_on b) p);
        wrote = mark (need11 C) (latest (wr_on b) p);
        shut = start_mark (latest (closes b) p);
      }

  unfoldable pub written : Past → Written
  written p = record { w0 = has (mrs_to 0) p; w1 = has (mrs_to 1) p; w2 = has (mrs_to 2) p; w3 = has (mrs_to 3) p; dll = has dll_reset p }

  -- the last four ACTs, latest first
  unfoldable pub acts : Past → List Mark
  acts p =
      mark (λ _. C.tras) (back (is Act) 0 p) ∷ mark (λ _. C.tras) (back (is Act) 1 p) ∷ mark (λ _. C.tras) (back (is Act) 2 p)
      ∷ mark (λ _. C.tras) (back (is Act) 3 p) ∷ []

  unfoldable pub rests : Past → Rests
  rests p =
      record {
        refreshed = mark (λ _. C.trfc) (latest (is Ref) p);
        tuned = mark (need18 C) (latest (is Zq) p);
        reset = mark (λ _. 512) (latest (λ s. dll_reset s || is Srx s) p);
        woke = mark (λ _. C.txs) (latest (is Srx) p);
        slept = mark (λ _. C.tcke + 1) (latest (is Sre) p);
        turned = mark (λ _. C.tcke) (turned p);
        left = mark (λ _. C.txp) (latest (is Pdx) p);
        slow = mark (λ _. C.txpdll) (latest (slow_exit C) p);
      }

  unfoldable pub shared : Past → Shared
  shared p =
      record {
        now = edge p;
        level = cke p;
        acts = acts p;
        rests = rests p;
        debt = debt_of C.trefi p;
        regs = regs p;
        written = written p;
        read = read_of (latest (is Rd) p);
        wrote = wrote_of (latest (is Wr) p);
        mrs = mark (λ _. 4) (latest (is Mrs) p);
        shut = start_mark (greatest shuts (start C) p);
      }

  -- the state after a past in which nothing is broken
  unfoldable pub summary : Past → Rank
  summary p =
      record {
        edge = edge p;
        count = number p;
        first = no_verdict;
        banks = table (kept p);
        dues = table (λ b. running.due C (kept p b));
        shared = shared p;
      }
