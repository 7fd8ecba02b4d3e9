-- The whole recording: the state as edges after any records is that function of it.
-- Assumes nothing.
use Prim.Native.Nat.{ℕ, ◌-◌, ◌≤◌, ◌<◌}
use native.Mathlib.Omega.{arith}
use mathlib.Core.Path.{◌≡◌, refl, sym, ap, ◌∙◌}
use mathlib.Core.Bool.{false, cond}
use mathlib.Core.List.{List, [], ◌∷◌, reverse_aux}
use Rattle.answers.specs.declared.Break.{Break}
use Rattle.answers.specs.declared.Break.TheVariants.{Fine, Broken}
use Rattle.answers.specs.declared.Verdict.{Verdict}
use Rattle.records.specs.declared.Record.{Record}
use Rattle.chip.specs.declared.Chip.{Chip}
use Rattle.running.specs.Said.{no_verdict, clean_at, is_clean}
use Rattle.edges.specs.declared.Rank.{Rank}
use Rattle.edges.specs.Step.{moved_of, stopped_of, step_of, fold_of, so_far}
use Rattle.edges.specs.Ends.{start_rank}
use Rattle.rules.specs.Past.{Past, edge, number, up_to}
use Rattle.rules.specs.Verdict.{Outcome, clean, stop, verdict_to, shown, verdict_so_far, Apart, Steps}
use Rattle.rules.proofs.Facts.{Sound}
use Rattle.rules.proofs.Sense.{stays-to, stop-at, stop-after}
use Rattle.rules.proofs.UpTo.{up-to-all, up-to-skip, up-to-before}
use Rattle.rules.proofs.Edges.{verdict-same, clean-past, small-owed, near-ref}
use Rattle.rules.proofs.Turn.{said}
use Rattle.carries.proofs.Summary.{summary}
use Rattle.carries.proofs.Moved.{moved-summary, summary-fresh}
use Rattle.carries.proofs.Says.{says_is}
use Rattle.carries.proofs.Whole.{frozen, carried_by, carried}

-- a stop is no clean verdict
said-broken : (t n : ℕ) (b : Break) → is_clean (said (stop t n b)) ≡ false
said-broken t n Fine = refl
said-broken t n (Broken k x m f) = refl

pub carried-clean : (C : Chip) (p : Past) → carried_by C clean p ≡ summary C p
unfolding carried_by frozen summary
carried-clean C p = ap (λ q. frozen C p q no_verdict) (up-to-all (edge p) p (omega arith))

-- a record after a break is only counted
stopped : (C : Chip) (r : Record) (p q : Past) (v w : Verdict) → stopped_of (frozen C p q w) r v ≡ frozen C (r ∷ p) q v
unfolding stopped_of frozen
stopped C r p q v w = refl

module _ (C : Chip) (S : Sound C) where
  -- a record after a clean past
  clean-next :
      (r : Record) (p : Past) → 1 ≤ r.step → Apart p → verdict_to C p (edge p) ≡ clean → (v : Outcome)
      → verdict_to C (r ∷ p) (edge (r ∷ p)) ≡ v → step_of C (summary C p) r ≡ carried_by C v (r ∷ p)
  unfolding step_of carried_by frozen summary
  clean-next r p far apart z v e = ap by (says_is C S r p far apart z ∙ ap said e) ∙ go v e
    where
      by : Verdict → Rank
      by w = cond (is_clean w) (moved_of C (summary C p) r) (stopped_of (summary C p) r w)

      go : (v : Outcome) → verdict_to C (r ∷ p) (edge (r ∷ p)) ≡ v → by (said v) ≡ carried_by C v (r ∷ p)
      go clean e =
          let pos = S.refi-least in
          moved-summary C pos r p (clean-past C (r ∷ p) (far, apart) e) (small-owed C pos p apart z) (small-owed C pos (r ∷ p) (far, apart) e)
          (near-ref C (r ∷ p) (far, apart) e)
          ∙ sym (carried-clean C (r ∷ p))
      go (stop t n b) e =
          let w = stop-at C (r ∷ p) (edge (r ∷ p)) t n b e in
          let l : edge p < t = stop-after C (r ∷ p) (edge p) t n b (verdict-same C r p (edge p) (omega arith) ∙ z) w.1 in
          ap (λ x. cond x (moved_of C (summary C p) r) (stopped_of (summary C p) r (said (stop t n b)))) (said-broken t n b)
          ∙ stopped C r p p (said (stop t n b)) no_verdict
          ∙ ap (λ q. frozen C (r ∷ p) q (said (stop t n b))) (sym (up-to-before r p t l w.0))

  stop-next :
      (r : Record) (p : Past) (t n : ℕ) (b : Break) → 1 ≤ r.step → verdict_to C p (edge p) ≡ stop t n b
      → step_of C (carried_by C (stop t n b) p) r ≡ carried_by C (stop t n b) (r ∷ p)
  unfolding step_of carried_by frozen stopped_of
  stop-next r p t n b far e =
      let w = stop-at C p (edge p) t n b e in
      let v = said (stop t n b) in
      rw (said-broken t n b) (stopped C r p (up_to (t - 1) p) v v ∙ ap (λ q. frozen C (r ∷ p) q v) (sym (up-to-skip (t - 1) r p (omega arith))))

  pub step-carried : (r : Record) (p : Past) → 1 ≤ r.step → Apart p → step_of C (carried C p) r ≡ carried C (r ∷ p)
  step-carried r p far apart = go (verdict_to C p (edge p)) refl
    where
      go : (v : Outcome) → verdict_to C p (edge p) ≡ v → step_of C (carried_by C v p) r ≡ carried C (r ∷ p)
      go clean z = ap (λ s. step_of C s r) (carried-clean C p) ∙ clean-next r p far apart z (verdict_to C (r ∷ p) (edge (r ∷ p))) refl
      go (stop t n b) z =
          stop-next r p t n b far z
          ∙ ap (λ v. carried_by C v (r ∷ p))
          (sym (stays-to C (r ∷ p) (edge p) (edge (r ∷ p)) t n b (omega arith) (verdict-same C r p (edge p) (omega arith) ∙ z)))

  pub fold-carried : (rs : List Record) (p : Past) → Steps rs → Apart p → fold_of C (carried C p) rs ≡ carried C (reverse_aux rs p)
  fold-carried [] p s apart = refl
  fold-carried (r ∷ rs) p s apart =
      ap (λ x. fold_of C x rs) (step-carried r p s.0 apart) ∙ fold-carried rs (r ∷ p) s.1 (s.0, apart)

-- before the first record
pub start-carried : (C : Chip) → start_rank C ≡ carried C []
unfolding verdict_to
start-carried C = summary-fresh C ∙ sym (carried-clean C [])

-- the verdict so far
pub so-far-carried : (C : Chip) (p : Past) → so_far (carried C p) ≡ verdict_so_far C p
unfolding so_far carried_by frozen
so-far-carried C p = go (verdict_to C p (edge p))
  where
    go : (v : Outcome) → cond (is_clean (said v)) (clean_at (number p) (edge p)) (said v) ≡ shown v (number p) (edge p)
    go clean = refl
    go (stop t n Fine) = refl
    go (stop t n (Broken k x m f)) = refl
