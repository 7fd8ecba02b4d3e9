-- A bank's status, and the edge at which it breaks rule 24, from what is kept of it.
-- Assumes nothing.
use Prim.Native.Nat.{ℕ, ◌+◌, ◌-◌, ◌≤◌, ◌<◌}
use native.Mathlib.Omega.{arith}
use mathlib.Core.Path.{◌≡◌, refl}
use mathlib.Core.Logic.{⊎_elim}
use mathlib.Core.Bool.{Bool, true, false, cond}
use mathlib.Core.List.{[], ◌∷◌}
use lib.Dec.{ltb, leb, eqb}
use borrow.Author.Tests.{ltb-true, ltb-false, lt-ltb, le-ltb, leb-true, leb-false, le-leb, ne_eqb}
use Rattle.running.specs.declared.Kept.{Kept}
use Rattle.running.specs.Breaks.{status_of}
use Rattle.running.specs.Next.{due}
use Rattle.rules.proofs.Generic.{decide}
use Rattle.rules.proofs.Clean.{is-other, ClosedBy, by-pre, by-rd, by-wr, closing-by}
use Rattle.rules.proofs.Summary.{mark, mark-at, start_mark, start-mark-at, kept}
use Rattle.answers.specs.declared.Bank.{Bank}
use Rattle.answers.specs.declared.Bank.TheVariants.{Idle, Open, Closing}
use Rattle.answers.specs.declared.Break.{Break}
use Rattle.answers.specs.declared.Break.TheVariants.{Fine, Broken}
use Rattle.chip.specs.declared.Chip.{Chip}
use Rattle.records.specs.declared.Command.TheVariants.{Pre, Act, Wr, Rd}
use Rattle.rules.specs.Banks.{act_on, closes, start, seen, status}
use Rattle.rules.specs.Deadlines.{late}
use Rattle.rules.specs.Past.{Past, edge, number, is, address_of, latest}
use Rattle.rules.proofs.Dominate.{need4}

pub latest-number : (k : Past → Bool) (p : Past) → number (latest k p) ≤ number p
latest-number k [] = omega arith
latest-number k (r ∷ p) = ⊎_elim
    (λ (y : k (r ∷ p) ≡ true). rw y (omega arith))
    (λ (n : k (r ∷ p) ≡ false). rw n (omega (arith, latest-number k p)))
    (decide (k (r ∷ p)))

pub mark-num : (need : Past → ℕ) (s : Past) → (mark need s).num ≡ number s
mark-num need [] = refl
mark-num need (r ∷ p) = refl

closes-not-act : (b : ℕ) (s : Past) → closes b s ≡ true → act_on b s ≡ false
closes-not-act b s y = go (closing-by b s y)
  where
    no : is Act s ≡ false → act_on b s ≡ false
    no h = rw h

    go : ClosedBy b s → act_on b s ≡ false
    go (by-pre a o) = no (is-other Pre Act s (λ z. omega arith) a)
    go (by-rd a o) = no (is-other Rd Act s (λ z. omega arith) a)
    go (by-wr a o) = no (is-other Wr Act s (λ z. omega arith) a)

module _ (C : Chip) where
  pub start-mark-num : (s : Past) → (start_mark C s).num ≡ number s
  start-mark-num [] = refl
  start-mark-num (q ∷ s) = refl

  -- the same over the events: the later of the latest ACT and the latest closing event
  abbrev pub status_by : Past → Past → ℕ → Bank
  status_by a c t = cond (ltb (number c) (number a)) (Open (edge a) (number a) (address_of a))
      (cond (leb (start C c) t) Idle (Closing (edge a) (number a) (address_of a)))

  pub status-by : (b t : ℕ) (p : Past) → status C b p t ≡ status_by (latest (act_on b) p) (latest (closes b) p) t
  unfolding seen start
  status-by b t [] = rw (le-leb 0 t (omega arith))
  status-by b t (r ∷ p) = ⊎_elim
      (λ (y : closes b (r ∷ p) ≡ true).
      let n = closes-not-act b (r ∷ p) y in
      rw (n, y, y, le-ltb (number (r ∷ p)) (number (latest (act_on b) p)) (omega (arith, latest-number (act_on b) p))))
      (λ (n : closes b (r ∷ p) ≡ false). ⊎_elim
      (λ (y : act_on b (r ∷ p) ≡ true). rw (y, n, lt-ltb (number (latest (closes b) p)) (number (r ∷ p)) (omega (arith, latest-number (closes b) p))))
      (λ (z : act_on b (r ∷ p) ≡ false). rw (z, n) (status-by b t p))
      (decide (act_on b (r ∷ p))))
      (decide (closes b (r ∷ p)))

  -- the status is that of what is kept
  pub status-of : (b t : ℕ) (p : Past) → status_of (kept C p b) t ≡ status C b p t
  unfolding status_of kept
  status-of b t p =
      let a = latest (act_on b) p in
      let c = latest (closes b) p in
      rw (mark-at (need4 C) a, mark-num (need4 C) a, start-mark-at C c, start-mark-num c, status-by b t p)

  -- rule 24 of a bank at t, by its due edge
  abbrev pub late_now : Kept → ℕ → Break
  late_now k t = cond (eqb (due C k) t) (Broken 24 k.acted.num C.most (C.most + 1)) Fine

  pub late-now : (k : Kept) (t : ℕ) → 0 < t → late C.most (status_of k (t - 1)) t ≡ late_now k t
  unfolding status_of due
  late-now k t h = go (ltb k.shut.num k.acted.num) (leb k.shut.at (t - 1)) refl (ltb (k.acted.at + C.most) k.shut.at) refl
    where
      go : (w x : Bool) → leb k.shut.at (t - 1) ≡ x → (y : Bool) → ltb (k.acted.at + C.most) k.shut.at ≡ y →
          late C.most (cond w (Open k.acted.at k.acted.num k.row) (cond x Idle (Closing k.acted.at k.acted.num k.row))) t
          ≡ cond (eqb (cond w (k.acted.at + C.most + 1) (cond y (k.acted.at + C.most + 1) 0)) t) (Broken 24 k.acted.num C.most (C.most + 1)) Fine
      go true x u y v = refl
      go false true u true v = rw (ne_eqb (k.acted.at + C.most + 1) t (λ e. omega (arith, leb-true, ltb-true)))
      go false true u false v = rw (ne_eqb 0 t (λ e. omega arith))
      go false false u true v = refl
      go false false u false v = rw (ne_eqb (k.acted.at + C.most + 1) t (λ e. omega (arith, leb-false, ltb-false)), ne_eqb 0 t (λ e. omega arith))
