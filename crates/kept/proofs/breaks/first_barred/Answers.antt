-- A bank more.
-- Assumes nothing.
use Rattle.std.proofs.Common.{◌≡◌, ℕ, ◌+◌, refl, ◌∙◌, add-one}
use Rattle.answers.specs.declared.Break.{Break}
use Rattle.answers.specs.Answer.{or_else, lowest}
use Rattle.running.specs.Breaks.{barred_at}
use Rattle.kept.proofs.breaks.first_barred.Goals as goal

one_more : (f : ℕ → Break) (i : ℕ) (a b x : Break) → a ≡ lowest f i → b ≡ f i → x ≡ or_else a b → x ≡ lowest f (i + 1)
unfolding lowest
one_more f i a b x was now is = is ∙ rw (add-one i, was, now)

pub loop-k-init : goal.loop-k-init
unfolding lowest
loop-k-init c = refl

pub loop-k-preserved : goal.loop-k-preserved
loop-k-preserved c = one_more (barred_at c.args.c c.args.banks c.args.e) c.loop-k.k-index _ _ _ c.loop-k.invariant c.barred.ensures c.or_else-first.ensures
