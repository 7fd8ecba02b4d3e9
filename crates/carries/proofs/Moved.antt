-- A clean record takes the summary of the past to the summary with it; before the first record the summary is the rank's beginning.
-- Assumes nothing.
use Prim.Native.Nat.{◌+◌, ◌-◌, ◌*◌, ◌%◌, ◌≤◌, ◌<◌}
use native.Mathlib.Nat.{zero-mod}
use native.Mathlib.Omega.{arith}
use mathlib.Core.Path.{◌≡◌}
use mathlib.Core.Bool.{true, false}
use mathlib.Core.List.{[], ◌∷◌}
use Rattle.laws.specs.Eight.{table}
use Rattle.records.specs.declared.Record.{Record}
use Rattle.chip.specs.declared.Chip.{Chip}
use Rattle.running.specs.Said.{no_verdict}
use Rattle.edges.specs.Step.{moved_of}
use Rattle.edges.specs.Ends.{fresh_banks, fresh_waits, fresh_acts, fresh_device, fresh_rank, start_rank}
use Rattle.rules.specs.Past.{Past, edge, number, asleep}
use Rattle.rules.specs.Deadlines.{awake_to, owed_to}
use Rattle.rules.specs.Waiting.{asks, wait}
use Rattle.rules.proofs.Clean.{Clean, clean-tail, not-bad}
use Rattle.rules.proofs.Debts.{gap_to}
use Rattle.carries.proofs.Summary.{turn_of, ring, acts_of, clocks_left, gap_left, debt_of, banks_of, waits_of, device_of, summary}
use Rattle.carries.proofs.Views.{regs-view}
use Rattle.carries.proofs.Moves.{banks-next, acts-next, device-next}
use Rattle.carries.proofs.Asks.{waits-next}
use Rattle.carries.proofs.Debts.{debt-next}

-- a clean record takes the summary of the past to the summary with it
pub moved-summary :
    (C : Chip) → 0 < C.trefi → (r : Record) (p : Past) → Clean C (r ∷ p) → owed_to C.trefi p ≤ 16 → owed_to C.trefi (r ∷ p) ≤ 16
    → gap_to (r ∷ p) ≤ C.nine → moved_of C (summary C p) r ≡ summary C (r ∷ p)
unfolding moved_of summary debt_of
moved-summary C pos r p h small after near = rw (regs-view C p) (λ i. record {
  edge = edge (r ∷ p);
  count = number (r ∷ p);
  first = no_verdict;
  level = r.cke;
  debt = debt-next C pos r p (not-bad C r p h) small after near i;
  banks = banks-next r p C i;
  waits = waits-next C r p (clean-tail C r p h) i;
  acts = acts-next r p i;
  device = device-next r p C h i;
})

-- before the first record
pub summary-fresh : (C : Chip) → start_rank C ≡ summary C []
unfolding summary banks_of waits_of acts_of device_of debt_of clocks_left gap_left gap_to table ring turn_of asleep awake_to owed_to wait asks fresh_rank fresh_banks fresh_waits
    fresh_acts fresh_device
summary-fresh C = λ i. record {
  edge = 0;
  count = 0;
  first = no_verdict;
  level = true;
  debt = record { sleeps = false; due = due i; gap = gap i };
  banks = fresh_banks;
  waits = fresh_waits;
  acts = fresh_acts;
  device = fresh_device;
}
  where
    due : 9 * C.trefi ≡ 0 + ((17 - 8) * C.trefi - 0 % C.trefi)
    due = omega (arith, zero-mod C.trefi)

    gap : C.nine + 1 ≡ 0 + (C.nine + 1 - (0 - 0))
    gap = omega arith
