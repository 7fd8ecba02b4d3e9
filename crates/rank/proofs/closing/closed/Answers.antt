-- Its parts.
-- Assumes nothing.
use Prim.Native.Nat.{ℕ, ◌≤◌}
use native.Mathlib.Omega.{arith}
use mathlib.Core.Bool.{Bool, true, false, cond}
use Rattle.running.specs.Ranges.{far_edge}
use Rattle.edges.specs.declared.Rank.{Rank}
use Rattle.edges.specs.Ranges.{Ranged}
use Rattle.edges.specs.Ends.{end_of}
use mathlib.Core.Path.{◌∙◌}
use Rattle.answers.specs.Answer.{shown_of}
use Rattle.running.specs.Breaks.{status_of}
use Rattle.edges.specs.Views.{kept_of}
use Rattle.rank.proofs.Filling.{eights}
use Rattle.rank.proofs.closing.closed.Goals as goal

from-edge : (sleeps : Bool) (e : ℕ) → cond sleeps 0 e ≤ e
from-edge true e = omega arith
from-edge false e = omega arith

near-due : (s : Rank) → Ranged s → s.debt.due ≤ far_edge
near-due s h = omega (arith, h.debt.0, h.edge, h.count, from-edge s.debt.sleeps s.edge)

pub owed_now-requires : goal.owed_now-requires
owed_now-requires c = let p = c.requires in record { le_trefi = p.small.some; due_le_far_edge = near-due _ p.ranged }

pub returns : goal.returns
unfolding end_of
returns c =
    simp (
      c.owed_now.ensures,
      c.registers_of.ensures,
      c.written_of.ensures,
      c.regs_of.ensures,
      c.banks_at.ensures ∙ eights (λ b. shown_of (status_of (kept_of c.args.chip c.args.s.banks b) c.rest-t.result)),
      c.rest-t.ensures,
      c.verdict_of-v.ensures,
    )
