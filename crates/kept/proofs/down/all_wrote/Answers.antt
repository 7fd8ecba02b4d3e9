-- A bank more.
-- Assumes nothing.
use Rattle.std.proofs.Common.{◌≡◌, ℕ, ◌+◌, refl, ◌∙◌, add-one}
use Rattle.answers.specs.declared.Break.{Break}
use Rattle.running.specs.Down.{later_of, latest_of}
use Rattle.kept.proofs.down.all_wrote.Goals as goal

one_more : (f : ℕ → Break) (i : ℕ) (a b x : Break) → a ≡ latest_of f i → b ≡ f i → x ≡ later_of a b → x ≡ latest_of f (i + 1)
unfolding latest_of
one_more f i a b x was now is = is ∙ rw (add-one i, was, now)

pub loop-k-init : goal.loop-k-init
unfolding latest_of
loop-k-init c = refl

pub loop-k-preserved : goal.loop-k-preserved
loop-k-preserved c = one_more _ c.loop-k.k-index _ _ _ c.loop-k.invariant c.wrote.ensures c.later_of-latest.ensures
