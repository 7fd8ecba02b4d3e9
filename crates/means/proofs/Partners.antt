-- The searches find the partners that 01 names: the latest of a kind, a least spacing, the lowest bank and the fourth ACT back.
-- Assumes nothing.
use Prim.Native.Nat.{ℕ, zero, suc, ◌≤◌, ◌<◌}
use native.Mathlib.Omega.{arith}
use mathlib.Core.Path.{◌≡◌, refl, sym, ap, ◌∙◌}
use mathlib.Core.Logic.{⊎_elim}
use mathlib.Core.Bool.{Bool, true, false, cond}
use mathlib.Core.List.{[], ◌∷◌, tail}
use lib.Dec.{leb, ltb}
use Rattle.answers.specs.declared.Bank.{Bank}
use Rattle.answers.specs.declared.Bank.TheVariants.{Idle}
use Rattle.answers.specs.declared.Break.{Break}
use Rattle.answers.specs.declared.Break.TheVariants.{Fine, Broken}
use Rattle.records.specs.declared.Record.{Record}
use Rattle.records.specs.declared.Command.TheVariants.{Act}
use Rattle.chip.specs.declared.Chip.{Chip}
use Rattle.rules.specs.Past.{Past, edge, number, is, ◌∈◌, here, there, latest, back}
use Rattle.rules.specs.Banks.{open_by, closing_by, act_on, closes, is_idle, act_num, start, status}
use Rattle.answers.specs.Answer.{or_else, lowest}
use Rattle.rules.specs.Search.{asking, Spacing, row}
use Rattle.rules.proofs.Generic.{decide}
use Rattle.rules.proofs.Events.{never, number-le}
use Rattle.rules.proofs.Clean.{lowest-fine}
use Rattle.rules.proofs.Status.{status-by}
use Rattle.rules.proofs.Sense.{Partner, partner-is}
use Rattle.rules.proofs.Words.{back-latest}
use Rattle.means.specs.Partners.{Latest, Fourth, Row-pair}

pub fine-broken {ℓ} : {A : Type ℓ} {k n m f : ℕ} → Fine ≡ Broken k n m f → A
fine-broken h = let z : ◌≡◌ {A = ℕ} 0 1 = cc in absurd (omega arith)

-- ── The latest of a kind ────────────────────────────────────────────────────────────────────

pub latest-sense : (k : Past → Bool) (p : Past) → 1 ≤ number (latest k p) → Latest k p (latest k p)
latest-sense k [] l = absurd (omega arith)
latest-sense k (r ∷ p) l = ⊎_elim
    (λ (y : k (r ∷ p) ≡ true). rw y (record { event = here; kind = y; last = λ t i z. number-le i }))
    (λ (n : k (r ∷ p) ≡ false).
    let w = latest-sense k p (rw n at l) in
    rw n (record { event = there w.event; kind = w.kind; last = older n w.last }))
    (decide (k (r ∷ p)))
  where
    older : k (r ∷ p) ≡ false → ((t : Past) → t ∈ p → k t ≡ true → number t ≤ number (latest k p))
        → (t : Past) → t ∈ r ∷ p → k t ≡ true → number t ≤ number (latest k p)
    older n g t here z = never z n
    older n g t (there i) z = g t i z

-- there is one such event
latest-at : (k : Past → Bool) {s p : Past} → s ∈ p → k s ≡ true → ((t : Past) → t ∈ p → k t ≡ true → number t ≤ number s) → latest k p ≡ s
latest-at k here y l = rw y
latest-at k (there {r = r} {p = p} i) y l = ⊎_elim
    (λ (z : k (r ∷ p) ≡ true). absurd (omega (arith, l (r ∷ p) here z, number-le i)))
    (λ (z : k (r ∷ p) ≡ false). rw z (latest-at k i y (λ t j. l t (there j))))
    (decide (k (r ∷ p)))

pub latest-one : (k : Past → Bool) (p s : Past) → Latest k p s → latest k p ≡ s
latest-one k p s w = latest-at k w.event w.kind w.last

-- ── A least spacing ─────────────────────────────────────────────────────────────────────────

pub row-pair : (R : Spacing) (r : Record) (p : Past) (k n m f : ℕ) → row R r p ≡ Broken k n m f → (k ≡ R.name) × Row-pair R r p n m f
row-pair R r p k n m f h = ⊎_elim
    (λ (y : R.to (r ∷ p) ≡ true).
    let w = partner-is R.name (asking (R.from (r ∷ p)) R.need) (edge (r ∷ p)) p k n m f (rw y at h) in
    (w.0, go y w.1))
    (λ (z : R.to (r ∷ p) ≡ false). fine-broken (rw z at h))
    (decide (R.to (r ∷ p)))
  where
    go : R.to (r ∷ p) ≡ true → Partner (asking (R.from (r ∷ p)) R.need) (edge (r ∷ p)) p n m f → Row-pair R r p n m f
    go y w = ⊎_elim
        (λ (z : R.from (r ∷ p) w.event ≡ true).
        record {
          later = y;
          event = w.event;
          within = w.within;
          earlier = z;
          partner-is = sym w.is;
          needed-is = sym (rw z at w.needs);
          found-is = sym w.finds;
          too_few = w.short-of;
          last = λ s i v l. rw v at (w.last s i l);
        })
        (λ (z : R.from (r ∷ p) w.event ≡ false).
        let none : 0 ≡ m = rw z at w.needs in
        absurd (omega (arith, w.short-of)))
        (decide (R.from (r ∷ p) w.event))

-- ── The lowest of banks ─────────────────────────────────────────────────────────────────────

pub record Lowest (f : ℕ → Break) (n : ℕ) (b : Break) : Type 0 where
  pub bank : ℕ
  pub below : bank < n
  pub here-is : f bank ≡ b
  pub lower : (c : ℕ) → c < bank → f c ≡ Fine

pub lowest-sense : (f : ℕ → Break) (n k x m y : ℕ) → lowest f n ≡ Broken k x m y → Lowest f n (Broken k x m y)
unfolding lowest or_else
lowest-sense f zero k x m y h = fine-broken h
lowest-sense f (suc n) k x m y h = go (lowest f n) refl h (λ z. lowest-sense f n k x m y z)
  where
    go : (b : Break) → lowest f n ≡ b → or_else b (f n) ≡ Broken k x m y → (lowest f n ≡ Broken k x m y → Lowest f n (Broken k x m y))
        → Lowest f (suc n) (Broken k x m y)
    go Fine z e ih = record { bank = n; below = omega arith; here-is = e; lower = λ c l. lowest-fine f n c z l }
    go (Broken a b c d) z e ih =
        let w = ih (z ∙ e) in
        record { bank = w.bank; below = omega (arith, w.below); here-is = w.here-is; lower = w.lower }

-- a bank is idle, or open or closing by its latest ACT
pub status-cases : (C : Chip) (b t : ℕ) (p : Past) (P : Bank → Type 0)
    → P Idle → P (open_by (latest (act_on b) p)) → P (closing_by (latest (act_on b) p)) → P (status C b p t)
status-cases C b t p P x y z =
    rw (status-by C b t p) (go (ltb (number (latest (closes b) p)) (number (latest (act_on b) p))) (leb (start C (latest (closes b) p)) t))
  where
    go : (u v : Bool) → P (cond u (open_by (latest (act_on b) p)) (cond v Idle (closing_by (latest (act_on b) p))))
    go true v = y
    go false true = x
    go false false = z

pub act-number : (C : Chip) (b t : ℕ) (p : Past) → act_num (status C b p t) ≡ cond (is_idle (status C b p t)) 0 (number (latest (act_on b) p))
act-number C b t p = status-cases C b t p (λ k. act_num k ≡ cond (is_idle k) 0 (number (latest (act_on b) p))) refl refl refl

-- ── The fourth back ─────────────────────────────────────────────────────────────────────────

back-tail : (k : Past → Bool) (n : ℕ) (p : Past) → back k (suc n) p ≡ back k n (tail (latest k p))
back-tail k n [] = refl
back-tail k n (r ∷ p) = ⊎_elim
    (λ (y : k (r ∷ p) ≡ true). rw y)
    (λ (z : k (r ∷ p) ≡ false). rw z (back-tail k n p))
    (decide (k (r ∷ p)))

some-tail : (k : Past → Bool) (s : Past) → 1 ≤ number (latest k (tail s)) → 1 ≤ number s
some-tail k [] l = absurd (omega arith)
some-tail k (r ∷ p) l = omega arith

fourth-back : (p : Past) → back (is Act) 3 p ≡ latest (is Act) (tail (latest (is Act) (tail (latest (is Act) (tail (latest (is Act) p))))))
fourth-back p =
    let a = latest (is Act) p in
    let b = latest (is Act) (tail a) in
    let c = latest (is Act) (tail b) in
    back-tail (is Act) 2 p ∙ back-tail (is Act) 1 (tail a) ∙ back-tail (is Act) 0 (tail b) ∙ back-latest (is Act) (tail c)

pub fourth-is : (p : Past) → 1 ≤ number (back (is Act) 3 p) → Fourth p (back (is Act) 3 p)
fourth-is p l =
    let a = latest (is Act) p in
    let b = latest (is Act) (tail a) in
    let c = latest (is Act) (tail b) in
    let d = latest (is Act) (tail c) in
    let fourth : 1 ≤ number d = rw (fourth-back p) at l in
    let third : 1 ≤ number c = some-tail (is Act) c fourth in
    let second : 1 ≤ number b = some-tail (is Act) b third in
    let first : 1 ≤ number a = some-tail (is Act) a second in
    rw (fourth-back p)
    (a, b, c, latest-sense (is Act) p first, latest-sense (is Act) (tail a) second, latest-sense (is Act) (tail b) third, latest-sense (is Act) (tail c) fourth)

pub fourth-one : (p s : Past) → Fourth p s → back (is Act) 3 p ≡ s
fourth-one p s (a, b, c, w, x, y, z) =
    fourth-back p
    ∙ ap (λ u. latest (is Act) (tail (latest (is Act) (tail (latest (is Act) (tail u)))))) (latest-one (is Act) p a w)
    ∙ ap (λ u. latest (is Act) (tail (latest (is Act) (tail u)))) (latest-one (is Act) (tail a) b x)
    ∙ ap (λ u. latest (is Act) (tail u)) (latest-one (is Act) (tail b) c y)
    ∙ latest-one (is Act) (tail c) s z
