-- The waiting times that the state keeps after any recording are those that are promised.
-- Assumes nothing.
use Prim.Native.Nat.{ℕ, ◌-◌, ◌<◌}
use native.Mathlib.Omega.{arith}
use mathlib.Core.Path.{◌≡◌, refl, sym, ◌∙◌}
use Rattle.laws.proofs.Eight.{get_or-table, get_or-first, get_or-second}
use Rattle.answers.specs.declared.Verdict.{Verdict}
use Rattle.records.specs.declared.Command.{Command}
use Rattle.records.specs.declared.Command.TheVariants.{Mrs, Ref, Pre, Act, Wr, Rd, Zq, Nop, Des, Sre, Srx, Low, Bad, Pde, Pdx}
use Rattle.chip.specs.declared.Chip.{Chip}
use Rattle.rules.specs.Past.{Past, edge}
use Rattle.rules.specs.Verdict.{Outcome, clean, stop, verdict_to, rest, Apart}
use Rattle.rules.specs.Waiting.{asks, wait}
use Rattle.rules.proofs.Clean.{Clean}
use Rattle.rules.proofs.Facts.{Sound}
use Rattle.rules.proofs.Sense.{clean-iff, earliest}
use Rattle.rules.proofs.Edges.{clean-up-to}
use Rattle.rules.proofs.Waiting.{waits-afresh}
use Rattle.rules.proofs.Allowing.{waits-allow}
use Rattle.carries.specs.Waited.{time_of, standing, Waited}
use Rattle.carries.proofs.Summary.{waits_of}
use Rattle.carries.proofs.Marks.{wait-view}
use Rattle.carries.proofs.Broken.{wait-at}
use Rattle.carries.proofs.Whole.{frozen, carried_by, carried}

-- ── The records that are kept are clean ─────────────────────────────────────────────────────

module _ (C : Chip) where
  pub clean-standing : (p : Past) → Apart p → Clean C (standing C p)
  clean-standing p apart = clean-up-to C (rest (verdict_to C p (edge p)) (edge p)) p apart (go (verdict_to C p (edge p)) refl)
    where
      go : (v : Outcome) → verdict_to C p (edge p) ≡ v → verdict_to C p (rest v (edge p)) ≡ clean
      go clean z = z
      go (stop t n b) z = (clean-iff C p (t - 1)).1 (λ s a l. earliest C p (edge p) t n b z s a (omega arith))

  -- ── The waiting times ───────────────────────────────────────────────────────────────────────

  time-is : (q : Past) (c : Command) (b : ℕ) → b < 8 → time_of (waits_of C q) c b ≡ wait C c b q
  unfolding waits_of wait asks
  time-is q Act b l = get_or-table (λ b. wait C Act b q) b 0 l
  time-is q Rd b l = get_or-first (λ b. wait C Rd b q) (λ b. wait C Wr b q) b 0 l
  time-is q Wr b l = get_or-second (λ b. wait C Rd b q) (λ b. wait C Wr b q) b 0 l
  time-is q Pre b l = get_or-table (λ b. wait C Pre b q) b 0 l
  time-is q Ref b l = refl
  time-is q Mrs b l = refl
  time-is q Zq b l = refl
  time-is q Sre b l = refl
  time-is q Nop b l = refl
  time-is q Des b l = refl
  time-is q Srx b l = refl
  time-is q Low b l = refl
  time-is q Bad b l = refl
  time-is q Pde b l = refl
  time-is q Pdx b l = refl

  module _ (S : Sound C) where
    frozen-waited : (p q : Past) (v : Verdict) → Clean C q → Waited C (frozen C p q v) q
    unfolding frozen
    frozen-waited p q v h =
        record {
          afresh = λ c b l. time-is q c b l ∙ sym (wait-view C q h c b l ∙ waits-afresh C S q h c b l);
          look-back = time-is q;
          allow = λ r. rw (wait-at C r q) (waits-allow C S r q);
        }

    -- after any recording
    pub waited-carried : (p : Past) → Apart p → Waited C (carried C p) (standing C p)
    unfolding carried_by
    waited-carried p apart = frozen-waited p (standing C p) _ (clean-standing p apart)
