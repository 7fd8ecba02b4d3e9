-- The records of a broken rank, all at once.
-- Assumes nothing.
use Prim.Native.Nat.{◌+◌}
use native.Mathlib.Omega.{arith}
use mathlib.Core.List.{List, [], ◌∷◌}
use mathlib.Core.Path.{◌≡◌, ap, ◌∙◌}
use lib.ListN.{length}
use Rattle.records.specs.declared.Record.{Record}
use Rattle.records.specs.Record.{steps_of}
use Rattle.chip.specs.declared.Chip.{Chip}
use Rattle.edges.specs.declared.Rank.{Rank}
use Rattle.edges.specs.Step.{stopped_of, later_of, fold_of}
use Rattle.edges.proofs.Counts.{counts_step}

none-later : (n : Rank) → n ≡ later_of n 0 0
unfolding later_of
none-later n = λ i. record {
  edge = edge i;
  count = count i;
  first = n.first;
  level = n.level;
  debt = n.debt;
  banks = n.banks;
  waits = n.waits;
  acts = n.acts;
  device = n.device;
}
  where
    edge : n.edge ≡ n.edge + 0
    edge = omega arith

    count : n.count ≡ n.count + 0
    count = omega arith

one_later : (n : Rank) (r : Record) (rs : List Record) → later_of (stopped_of n r n.first) (steps_of rs) (length rs) ≡ later_of n (steps_of (r ∷ rs)) (length (r ∷ rs))
unfolding stopped_of later_of
one_later n r rs = λ i. record {
  edge = edge i;
  count = count i;
  first = n.first;
  level = n.level;
  debt = n.debt;
  banks = n.banks;
  waits = n.waits;
  acts = n.acts;
  device = n.device;
}
  where
    edge : n.edge + r.step + steps_of rs ≡ n.edge + (r.step + steps_of rs)
    edge = omega arith

    count : n.count + 1 + length rs ≡ n.count + length (r ∷ rs)
    count = omega arith

pub fold-stopped : (C : Chip) (n : Rank) → (n.first.outcome ≡ 0 → ⊥) → (rs : List Record) → fold_of C n rs ≡ later_of n (steps_of rs) (length rs)
unfolding stopped_of
fold-stopped C n broken [] = none-later n
fold-stopped C n broken (r ∷ rs) =
    ap (λ (m : Rank). fold_of C m rs) (counts_step C n r broken) ∙ fold-stopped C (stopped_of n r n.first) broken rs ∙ one_later n r rs
