-- The header, and ranks with no record.
-- Assumes nothing.
use Prim.Native.Nat.{◌+◌}
use native.Mathlib.Omega.{arith}
use mathlib.Core.Bool.{true}
use mathlib.Core.Path.{ap, ◌∙◌}
use Rattle.units.specs.declared.Clocks.{Clocks}
use Rattle.header.proofs.Bounds.{bounds}
use Rattle.chip.specs.Chip.{chip_of}
use Rattle.edges.specs.declared.Rank.{Rank}
use Rattle.edges.specs.Ends.{fresh_rank}
use Rattle.judge.specs.Calls.{holding}
use Rattle.judge.proofs.calls.start.Goals as goal

pub overflow_add-nine : goal.overflow_add-nine
overflow_add-nine c = omega (arith, ap (λ (k : Clocks). k.clocks) c.ninerefi-nine.ensures, (bounds c.args.h).nine)

pub returns : goal.returns
unfolding chip_of
returns c =
    c.holding.ensures
    ∙ ap (λ (n : Rank). holding c.args.h c.args.edition n n)
    (c.fresh-fresh.ensures ∙ ap (λ (k : Clocks). fresh_rank true k.clocks (k.clocks + 1)) c.ninerefi-nine.ensures)
