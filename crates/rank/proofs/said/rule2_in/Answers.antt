-- One bank, or all.
-- Assumes nothing.
use Prim.Native.Nat.{ℕ, ◌<◌}
use native.Mathlib.Omega.{arith}
use mathlib.Core.Bool.{false}
use mathlib.Core.Path.{◌≡◌, sym, ◌∙◌}
use Rattle.laws.proofs.Eight.{get_or-table}
use Rattle.answers.specs.declared.Break.{Break}
use Rattle.records.specs.declared.Record.{Record}
use Rattle.records.specs.declared.Command.{Command}
use Rattle.records.specs.Command.{bank_in}
use Rattle.chip.specs.declared.Chip.{Chip}
use Rattle.running.specs.declared.Kept.{Kept}
use Rattle.running.specs.Marks.{empty}
use Rattle.running.specs.Breaks.{status_of, wants, barred_by, speaks_of_all, rule2}
use Rattle.edges.specs.declared.Banks.{Banks}
use Rattle.edges.specs.Views.{kept_of, kepts_of}
use Rattle.running.specs.Breaks.{rule2}
use Rattle.rank.proofs.Filling.{eights}
use Rattle.rank.proofs.said.rule2_in.Goals as goal

of_one_lem :
    (C : Chip) (B : Banks) (c : Command) (r : Record) (e : ℕ) (k : Kept) (x : Break)
    → speaks_of_all c r ≡ false → k ≡ kept_of C B (bank_in r) → x ≡ barred_by (wants c) (status_of k e) → x ≡ rule2 c r (kepts_of C B) e
unfolding rule2
of_one_lem C B c r e k x one kept is =
    let h : bank_in r < 8 = omega arith in
    is ∙ rw (one, kept, get_or-table (kept_of C B) (bank_in r) empty h)

pub returns-then-speaks_of_all : goal.returns-then-speaks_of_all
unfolding rule2
returns-then-speaks_of_all c =
    simp (c.first_barred.ensures, c.kepts.ensures, eights (kept_of c.args.chip c.args.banks), ← c.speaks_of_all.ensures, c.if-speaks_of_all.true)

pub returns : goal.returns
unfolding rule2
returns c =
    let a = c.args in
    let one = sym c.speaks_of_all.ensures ∙ c.if-speaks_of_all.false in
    of_one_lem a.chip a.banks a.c a.r a.e _ _ one c.kept_of.ensures c.barred.ensures
