-- The ranges that 17 tests: the header's, each rank's, and that both ranks have counted the same records. docs/RANGES.md lists them.
-- Assumes nothing.
use Rattle.std.specs.Prelude.{Bool, cond, ◌&&◌, eqb, leb}
use Rattle.header.specs.Counts.{t_refi}
use Rattle.edges.specs.Ranges.{rank_in_range}
use Rattle.judge.specs.declared.State.{State}

-- In edition 2 both ranks count all records, so that what the first says of the limit and of the last edge holds of both. In edition 1 the second is
-- not looked at.
unfoldable pub ranks_agree : State → Bool
ranks_agree s =
    cond (eqb s.edition 2)
    (rank_in_range s.two && (eqb s.one.count s.two.count && eqb s.one.edge s.two.edge))
    (eqb s.edition 1)

unfoldable pub in_range : State → Bool
in_range s = leb 1 (t_refi s.header).clocks && (rank_in_range s.one && ranks_agree s)
