-- The waiting times, worked out afresh from what is kept: the earliest edge that the spacing rules 4 to 21, 29 and 30 allow a command.
-- Assumes nothing.
use Rattle.std.specs.Prelude.{ℕ, ◌+◌, max, List, [], ◌∷◌, get_or}
use Rattle.records.specs.declared.Command.{Command}
use Rattle.records.specs.declared.Command.TheVariants.{Mrs, Ref, Pre, Act, Wr, Rd, Zq, Nop, Des, Sre, Srx, Low, Bad, Pde, Pdx}
use Rattle.chip.specs.declared.Chip.{Chip}
use Rattle.running.specs.declared.Mark.{Mark}
use Rattle.running.specs.declared.Kept.{Kept}
use Rattle.running.specs.declared.Shared.{Shared}
use Rattle.running.specs.Marks.{none, needing, as10, as11, as13, as14, as19}

-- the edge from which the mark asks no more; 0 of no record
abbrev pub ends : Mark → ℕ
ends m = m.at + m.need

-- the latest of these
abbrev pub last_end : List Mark → ℕ
last_end [] = 0
last_end (m ∷ ms) = max (ends m) (last_end ms)

-- the marks that `spacings` looks at for a command, in its order; k: its bank, of a PRE one that it covers
unfoldable pub marks_for : Chip → Command → Kept → Shared → List Mark
marks_for C Act k s =
    k.shut ∷ needing C.trc k.acted ∷ needing C.trrd (get_or s.acts 0 none) ∷ needing C.tfaw (get_or s.acts 3 none)
    ∷ s.rests.refreshed ∷ needing C.tmod s.mrs ∷ s.rests.tuned ∷ s.rests.woke ∷ s.rests.left ∷ []
marks_for C Rd k s =
    k.acted ∷ needing 4 (as10 s.read) ∷ as14 s.wrote
    ∷ s.rests.refreshed ∷ needing C.tmod s.mrs ∷ s.rests.tuned ∷ s.rests.reset ∷ s.rests.woke ∷ s.rests.left
    ∷ s.rests.slow ∷ []
marks_for C Wr k s =
    k.acted ∷ needing 4 (as11 s.wrote) ∷ as13 s.read
    ∷ s.rests.refreshed ∷ needing C.tmod s.mrs ∷ s.rests.tuned ∷ s.rests.woke ∷ s.rests.left ∷ []
marks_for C Pre k s =
    needing C.tras k.acted ∷ k.read ∷ k.wrote
    ∷ s.rests.refreshed ∷ needing C.tmod s.mrs ∷ s.rests.tuned ∷ s.rests.woke ∷ s.rests.left ∷ []
marks_for C Ref k s = s.shut ∷ s.rests.refreshed ∷ needing C.tmod s.mrs ∷ s.rests.tuned ∷ s.rests.woke ∷ s.rests.left ∷ []
marks_for C Zq k s = s.shut ∷ s.rests.refreshed ∷ needing C.tmod s.mrs ∷ s.rests.tuned ∷ s.rests.woke ∷ s.rests.left ∷ []
marks_for C Mrs k s = s.shut ∷ s.rests.refreshed ∷ s.mrs ∷ s.rests.tuned ∷ as19 s.read ∷ s.rests.woke ∷ s.rests.left ∷ []
marks_for C Sre k s = s.shut ∷ s.rests.refreshed ∷ needing C.tmod s.mrs ∷ s.rests.tuned ∷ as19 s.read ∷ s.rests.woke ∷ s.rests.left ∷ []
marks_for C Nop k s = []
marks_for C Des k s = []
marks_for C Srx k s = []
marks_for C Low k s = []
marks_for C Bad k s = []
marks_for C Pde k s = []
marks_for C Pdx k s = []

-- the edge that the command has to wait for
unfoldable pub wait_of : Chip → Command → Kept → Shared → ℕ
wait_of C c k s = last_end (marks_for C c k s)
