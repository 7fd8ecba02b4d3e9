-- What the verdict means, so that a reader need not trust a recursion: clean exactly when no edge up to the end is broken; else the
-- earliest broken edge. And of one row: the partner is the latest earlier record that breaks it, with the clocks of that pair.
-- Assumes nothing.
use Prim.Native.Nat.{ℕ, zero, suc, ◌+◌, ◌-◌, ◌≤◌, ◌<◌}
use native.Mathlib.Omega.{arith}
use native.Mathlib.Decide.{dec_lt, ℕ_discrete}
use mathlib.Core.Path.{◌≡◌, refl, sym, ap, ◌∙◌, subst}
use mathlib.Core.Logic.{⊎_elim}
use mathlib.Core.Bool.{true, false}
use mathlib.Core.List.{[], ◌∷◌}
use lib.Dec.{ltb}
use borrow.Author.Tests.{ltb-true, ltb-false}
use Rattle.answers.specs.declared.Break.{Break}
use Rattle.answers.specs.declared.Break.TheVariants.{Broken}
use Rattle.chip.specs.declared.Chip.{Chip}
use Rattle.rules.specs.Past.{Past, edge, number, ◌∈◌, here, there}
use Rattle.rules.specs.Search.{look_back}
use Rattle.rules.specs.Verdict.{Outcome, clean, stop, broken_at, keep, verdict_to}
use Rattle.rules.proofs.Generic.{decide}
use Rattle.rules.proofs.Events.{number-le}
use Rattle.rules.proofs.Numbered.{stop-clean, keep-clean, broken-at}

module _ (C : Chip) (q : Past) where
  pub verdict-next : (t : ℕ) → 0 < t → verdict_to C q t ≡ keep (verdict_to C q (t - 1)) (broken_at C q t)
  unfolding verdict_to
  verdict-next zero l = absurd (omega arith)
  verdict-next (suc t) l =
      let e : t ≡ suc t - 1 = omega arith in
      ap (λ u. keep (verdict_to C q u) (broken_at C q (suc t))) e

  -- nothing Broken after lo
  skip : (n lo : ℕ) → ((s : ℕ) → lo < s → s ≤ lo + n → broken_at C q s ≡ clean) → verdict_to C q lo ≡ clean → verdict_to C q (lo + n) ≡ clean
  unfolding keep
  skip zero lo h z = let e : lo + 0 ≡ lo = omega arith in ap (verdict_to C q) e ∙ z
  skip (suc n) lo h z =
      let e : lo + suc n - 1 ≡ lo + n = omega arith in
      verdict-next (lo + suc n) (omega arith)
      ∙ ap (λ u. keep (verdict_to C q u) (broken_at C q (lo + suc n))) e
      ∙ ap (λ v. keep v (broken_at C q (lo + suc n))) (skip n lo (λ s a b. h s a (omega arith)) z)
      ∙ h (lo + suc n) (omega arith) (omega arith)

  pub skip-to : (lo t : ℕ) → lo ≤ t → ((s : ℕ) → lo < s → s ≤ t → broken_at C q s ≡ clean) → verdict_to C q lo ≡ clean → verdict_to C q t ≡ clean
  skip-to lo t l h z = let e : t ≡ lo + (t - lo) = omega arith in ap (verdict_to C q) e ∙ skip (t - lo) lo (λ s a b. h s a (omega arith)) z

  -- what was Broken first stays so
  stays : (n t w m : ℕ) (b : Break) → verdict_to C q t ≡ stop w m b → verdict_to C q (t + n) ≡ stop w m b
  unfolding keep
  stays zero t w m b z = let e : t + 0 ≡ t = omega arith in ap (verdict_to C q) e ∙ z
  stays (suc n) t w m b z =
      let e : t + suc n - 1 ≡ t + n = omega arith in
      verdict-next (t + suc n) (omega arith)
      ∙ ap (λ u. keep (verdict_to C q u) (broken_at C q (t + suc n))) e
      ∙ ap (λ v. keep v (broken_at C q (t + suc n))) (stays n t w m b z)

  pub stays-to : (t u w m : ℕ) (b : Break) → t ≤ u → verdict_to C q t ≡ stop w m b → verdict_to C q u ≡ stop w m b
  stays-to t u w m b l z = let e : u ≡ t + (u - t) = omega arith in ap (verdict_to C q) e ∙ stays (u - t) t w m b z

  pub clean-edges : (t : ℕ) → verdict_to C q t ≡ clean → (s : ℕ) → 0 < s → s ≤ t → broken_at C q s ≡ clean
  unfolding verdict_to
  clean-edges zero h s a b = absurd (omega arith)
  clean-edges (suc t) h s a b =
      let w = keep-clean (verdict_to C q t) _ h in
      elim (ℕ_discrete s (suc t)) [
        | yes e ↦ subst (λ u. broken_at C q u ≡ clean) (sym e) w.1
        | no e ↦ clean-edges t w.0 s a (omega arith)
      ]

  -- where the verdict stops
  pub stop-at : (u t n : ℕ) (b : Break) → verdict_to C q u ≡ stop t n b → (t ≤ u) × (verdict_to C q t ≡ stop t n b)
  unfolding verdict_to keep
  stop-at zero t n b h = stop-clean (sym h)
  stop-at (suc u) t n b h = go (verdict_to C q u) refl h (λ z. stop-at u t n b z)
    where
      go : (v : Outcome) → verdict_to C q u ≡ v → keep v (broken_at C q (suc u)) ≡ stop t n b
          → (verdict_to C q u ≡ stop t n b → (t ≤ u) × (verdict_to C q t ≡ stop t n b)) → (t ≤ suc u) × (verdict_to C q t ≡ stop t n b)
      go clean z e ih =
          let w = broken-at C q (suc u) t n b e in
          (omega arith, subst (λ s. verdict_to C q s ≡ stop t n b) w (ap (λ v. keep v (broken_at C q (suc u))) z ∙ e))
      go (stop w m c) z e ih = let i = ih (z ∙ e) in (omega arith, i.1)

  -- that is after every edge up to which it is clean
  pub stop-after : (lo t n : ℕ) (b : Break) → verdict_to C q lo ≡ clean → verdict_to C q t ≡ stop t n b → lo < t
  stop-after lo t n b z h = elim (dec_lt lo t) [
    | yes l ↦ l
    | no l ↦ stop-clean (sym (stays-to t lo t n b (omega arith) h) ∙ z)
  ]

  -- clean exactly when no edge up to the end is broken
  abbrev pub Clean-iff : ℕ → Type 0
  Clean-iff t = (verdict_to C q t ≡ clean → (s : ℕ) → 0 < s → s ≤ t → broken_at C q s ≡ clean)
      × (((s : ℕ) → 0 < s → s ≤ t → broken_at C q s ≡ clean) → verdict_to C q t ≡ clean)

  pub clean-iff : (t : ℕ) → Clean-iff t
  unfolding verdict_to
  clean-iff t = (clean-edges t, λ f. skip-to 0 t (omega arith) f refl)

  -- a broken verdict's edge is broken, and no edge before it is
  pub earliest : (u t n : ℕ) (b : Break) → verdict_to C q u ≡ stop t n b → (s : ℕ) → 0 < s → s < t → broken_at C q s ≡ clean
  earliest u t n b h s l m = go (verdict_to C q (t - 1)) refl
    where
      go : (v : Outcome) → verdict_to C q (t - 1) ≡ v → broken_at C q s ≡ clean
      go clean z = clean-edges (t - 1) z s l (omega arith)
      go (stop w k d) z =
          let first = stop-at (t - 1) w k d z in
          let same : verdict_to C q t ≡ stop w k d = stays-to (t - 1) t w k d (omega arith) z in
          let own = (stop-at u t n b h).1 in
          let e : w ≡ t = cc in
          absurd (omega (arith, first.0))

-- ── A row ───────────────────────────────────────────────────────────────────────────────────

-- the record s breaks the row at edge e, and no record after it does
pub record Partner (asks : Past → ℕ) (e : ℕ) (p : Past) (partner needed found : ℕ) : Type 0 where
  pub event : Past
  pub within : event ∈ p
  pub is : number event ≡ partner
  pub needs : asks event ≡ needed
  pub finds : e - edge event ≡ found
  pub short-of : found < needed
  pub last : (t : Past) → t ∈ p → partner < number t → asks t ≤ e - edge t

pub partner-is :
    (k : ℕ) (asks : Past → ℕ) (e : ℕ) (p : Past) (k' n m f : ℕ) → look_back edge k asks e p ≡ Broken k' n m f → (k' ≡ k) × Partner asks e p n m f
partner-is k asks e [] k' n m f h = let z : ◌≡◌ {A = ℕ} 0 1 = cc in absurd (omega arith)
partner-is k asks e (r ∷ p) k' n m f h = ⊎_elim
    (λ (y : ltb (e - edge (r ∷ p)) (asks (r ∷ p)) ≡ true).
    let g : Broken k (number (r ∷ p)) (asks (r ∷ p)) (e - edge (r ∷ p)) ≡ Broken k' n m f = rw y at h in
    let num : number (r ∷ p) ≡ n = cc in
    let need : asks (r ∷ p) ≡ m = cc in
    let found : e - edge (r ∷ p) ≡ f = cc in (
      cc,
      record {
        event = r ∷ p;
        within = here;
        is = num;
        needs = need;
        finds = found;
        short-of = omega (arith, ltb-true (e - edge (r ∷ p)) (asks (r ∷ p)) y);
        last = λ t i l. absurd (omega (arith, number-le i));
      },
    ))
    (λ (z : ltb (e - edge (r ∷ p)) (asks (r ∷ p)) ≡ false).
    let w = partner-is k asks e p k' n m f (rw z at h) in (
      w.0,
      record {
        event = w.1.event;
        within = there w.1.within;
        is = w.1.is;
        needs = w.1.needs;
        finds = w.1.finds;
        short-of = w.1.short-of;
        last = later z w.1.last;
      },
    ))
    (decide (ltb (e - edge (r ∷ p)) (asks (r ∷ p))))
  where
    later : ltb (e - edge (r ∷ p)) (asks (r ∷ p)) ≡ false → ((t : Past) → t ∈ p → n < number t → asks t ≤ e - edge t)
        → (t : Past) → t ∈ r ∷ p → n < number t → asks t ≤ e - edge t
    later z g t here l = ltb-false (e - edge (r ∷ p)) (asks (r ∷ p)) z
    later z g t (there i) l = g t i l
