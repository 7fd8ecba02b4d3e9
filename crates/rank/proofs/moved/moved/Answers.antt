-- Part by part.
-- Assumes nothing.
use Prim.Native.Nat.{ℕ, ◌+◌, ◌-◌, ◌≤◌}
use native.Mathlib.Omega.{arith}
use mathlib.Core.Path.{◌≡◌, ◌∙◌}
use mathlib.Core.Bool.{Bool, true, false, cond, not, ◌&&◌}
use lib.Dec.{ltb}
use lib.ListN.{get_or}
use Rattle.laws.specs.Any.{any_of}
use Rattle.codes.specs.Codes.{set}
use Rattle.records.specs.declared.Record.{Record}
use Rattle.records.specs.declared.Command.{Command}
use Rattle.chip.specs.declared.Chip.{Chip}
use Rattle.chip.specs.declared.Regs.{Regs}
use Rattle.running.specs.Ranges.{limit, last_edge, far_edge}
use Rattle.edges.specs.declared.Acts.{Acts}
use Rattle.edges.specs.declared.Banks.{Banks}
use Rattle.edges.specs.declared.Debt.{Debt}
use Rattle.edges.specs.declared.Device.{Device}
use Rattle.edges.specs.declared.Rank.{Rank}
use Rattle.edges.specs.declared.Waits.{Waits}
use Rattle.edges.specs.Asks.{four_back, waits_next}
use Rattle.edges.specs.Next.{start_of, debt_next, banks_next, acts_next, device_next, slow_now, none_open}
use Rattle.edges.specs.Ranges.{Ranged, farthest}
use Rattle.edges.specs.Says.{command_in}
use Rattle.edges.specs.Step.{regs_in, moved_of}
use Rattle.rank.proofs.moved.moved.Goals as goal

near : (s : Rank) (r : Record) → Ranged s → r.step ≤ 16777216 → s.count + 1 ≤ limit → s.edge + r.step ≤ last_edge
near s r h short room = omega (arith, h.edge, short, room)

due-near : (sleeps : Bool) (due e : ℕ) → due - cond sleeps 0 e ≤ farthest → e ≤ last_edge → due ≤ far_edge
due-near true due e h n = omega (arith, h, n)
due-near false due e h n = omega (arith, h, n)

debt-near : (s : Rank) → Ranged s → (s.debt.due ≤ far_edge) × (s.debt.gap ≤ far_edge)
debt-near s h =
    let e : s.edge ≤ last_edge = omega (arith, h.edge, h.count) in
    (due-near s.debt.sleeps s.debt.due s.edge h.debt.0 e, due-near s.debt.sleeps s.debt.gap s.edge h.debt.1 e)

moved-is :
    (C : Chip) (s : Rank) (r : Record) {c : Command} {g : Regs} {start four : ℕ} {slow : Bool} {D : Debt} {B : Banks} {W : Waits} {A : Acts} {Y : Device}
    → c ≡ command_in s r → g ≡ regs_in s → start ≡ start_of C c r (s.edge + r.step) g s.banks → four ≡ four_back C s.acts
    → slow ≡ get_or s.device.written 0 false && (not (set (get_or s.device.codes 0 0) 12) && not (any_of (λ b. ltb (get_or s.banks.shutno b 0) (get_or s.banks.actno b 0)) 8))
    → D ≡ debt_next C c (s.edge + r.step) s.debt
    → B ≡ banks_next C c r (s.edge + r.step) (s.count + 1) g s.banks
    → W ≡ waits_next C c r (s.edge + r.step) g start four slow s.waits
    → A ≡ acts_next c (s.edge + r.step) (s.count + 1) s.acts
    → Y ≡ device_next C c r (s.edge + r.step) (s.count + 1) slow s.device
    → record { edge = s.edge + r.step; count = s.count + 1; first = s.first; level = r.cke; debt = D; banks = B; waits = W; acts = A; device = Y }
    ≡ moved_of C s r
unfolding moved_of slow_now none_open
moved-is C s r cs gs st fs ls ds bs ws rs vs =
    let sts = st ∙ (λ j. start_of C (cs j) r (s.edge + r.step) (gs j) s.banks) in
    λ x. record {
      edge = s.edge + r.step;
      count = s.count + 1;
      first = s.first;
      level = r.cke;
      debt = (ds ∙ (λ j. debt_next C (cs j) (s.edge + r.step) s.debt)) x;
      banks = (bs ∙ (λ j. banks_next C (cs j) r (s.edge + r.step) (s.count + 1) (gs j) s.banks)) x;
      waits = (ws ∙ (λ j. waits_next C (cs j) r (s.edge + r.step) (gs j) (sts j) (fs j) (ls j) s.waits)) x;
      acts = (rs ∙ (λ j. acts_next (cs j) (s.edge + r.step) (s.count + 1) s.acts)) x;
      device = (vs ∙ (λ j. device_next C (cs j) r (s.edge + r.step) (s.count + 1) (ls j) s.device)) x;
    }

pub start_of-start-requires : goal.start_of-start-requires
start_of-start-requires c = let p = c.requires in let n = near c.args.s c.args.r p.ranged p.step_bound p.count_bound in record { small = p.small; e_le_last_edge = n; by_index = p.ranged.acted }

pub debt_next-debt-requires : goal.debt_next-debt-requires
debt_next-debt-requires c = let p = c.requires in let n = near c.args.s c.args.r p.ranged p.step_bound p.count_bound in record { small = p.small; e_le_far_edge = omega (arith, n); due_le_far_edge = debt-near c.args.s p.ranged }

pub returns : goal.returns
returns c =
    let a = c.args in
    moved-is a.chip a.s a.r
    c.command_of-c.ensures c.regs_of-g.ensures c.start_of-start.ensures.value c.four_back-four.ensures c.slow_now-slow.ensures
    c.debt_next-debt.ensures c.banks_next.ensures
    c.waits_next.ensures c.acts_next.ensures c.device_next.ensures
