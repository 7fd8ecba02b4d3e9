-- The verdict on a widened recording's first rank is the verdict on the narrow one: 02, Q-7.
-- Assumes nothing.
use Prim.Native.Nat.{ℕ, ◌+◌, ◌*◌, ◌/◌, ◌%◌}
use native.Mathlib.Omega.{arith}
use mathlib.Core.Bool.{false}
use mathlib.Core.List.{List, reverse}
use mathlib.Core.Path.{◌≡◌, sym, ap, ◌∙◌}
use lib.ListN.{drop, get_or}
use lib.Seq.{drop_at}
use Rattle.header.specs.Bytes.{edition_for}
use Rattle.wide.specs.Spread.{Bytes}
use Rattle.wide.specs.Moved.{widen}
use Rattle.wide.specs.Editions.{view}
use Rattle.wide.proofs.Editions.{view-one, view-two}
use Rattle.wide.proofs.Moving.{records-narrow}
use Rattle.wide.proofs.Returning.{rank-widened}
use Rattle.chip.specs.Chip.{chip_of}
use Rattle.rules.specs.Past.{recording}
use Rattle.rules.specs.Verdict.{shown_verdict}
use Rattle.moves.specs.Moves.{headed, widened, widen_refusal}
use Rattle.moves.proofs.Going.{goes}
use Rattle.moves.proofs.Heads.{first-bits, header-moved}
use Rattle.moves.proofs.Laying.{six}
use Rattle.sections.specs.Recording.{past, whole_verdict}

module _ (bs : List ℕ) (small : Bytes bs) (none : widen_refusal bs ≡ 0) where
  edition-one : edition_for bs ≡ 1
  unfolding edition_for
  edition-one = rw (first-bits 1 bs small (goes 1 6 _ bs none).opens)

  edition-two : edition_for (widened bs) ≡ 2
  unfolding edition_for headed
  edition-two = let two : (2 * 16 + get_or bs 0 0 % 16) / 16 ≡ 2 = omega arith in rw two

  behind : drop 6 (widened bs) ≡ widen (drop 6 bs)
  behind = drop_at (headed 2 bs) (widen (drop 6 bs)) 6 (six 2 bs)

  past_same : past false (widened bs) ≡ past false bs
  past_same =
      (λ i. recording (view (edition-two i) false (behind i)))
      ∙ ap recording (view-two false (widen (drop 6 bs)))
      ∙ ap reverse (records-narrow false (widen (drop 6 bs)) ∙ rank-widened (drop 6 bs))
      ∙ sym ((λ i. recording (view (edition-one i) false (drop 6 bs))) ∙ ap recording (view-one (drop 6 bs)))

  pub same-verdict : (end : ℕ) → whole_verdict false (widened bs) end ≡ whole_verdict false bs end
  unfolding whole_verdict
  same-verdict end =
      λ i. shown_verdict (chip_of (header-moved 1 bs small (goes 1 6 _ bs none).opens 2 (widen (drop 6 bs)) i)) (past_same i) end
