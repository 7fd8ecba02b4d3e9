-- The edge at which a bank comes due, and that no frequent command brings one before the edge clear.
-- Assumes nothing.
use Prim.Native.Nat.{ℕ, ◌+◌, ◌≤◌, ◌<◌}
use native.Mathlib.Omega.{arith}
use mathlib.Core.Bool.{Bool, true, false, cond, ◌&&◌, ◌||◌, true≢false}
use mathlib.Core.Logic.{inl, inr, ⊎_elim}
use mathlib.Core.Path.{◌≡◌, refl, sym, ◌∙◌, subst}
use lib.Dec.{eqb, ltb, leb}
use lib.ListN.{get_or}
use borrow.Author.Tests.{le-ltb, lt-ltb, ltb-true, ltb-false, leb-false}
use Rattle.laws.proofs.Eight.{get_or-table}
use Rattle.chip.specs.declared.Chip.{Chip}
use Rattle.running.specs.Marks.{needing}
use Rattle.running.specs.Next.{due}
use Rattle.edges.specs.declared.Banks.{Banks}
use Rattle.edges.specs.Views.{kept_of}
use Rattle.edges.specs.Says.{dues_of}
use Rattle.edges.specs.Clearing.{due_by, Off}

pub due-at : (C : Chip) (B : Banks) (b : ℕ) → b < 8
    → get_or (dues_of C B) b 0 ≡ due_by C.most (get_or B.actat b 0) (get_or B.actno b 0) (get_or B.shutat b 0) (get_or B.shutno b 0)
unfolding dues_of due kept_of needing
due-at C B b l = get_or-table (λ b. due C (kept_of C B b)) b 0 l

pub off-later : (lo hi x d : ℕ) → lo ≤ hi → Off lo x d → Off hi x d
off-later lo hi x d l h = ⊎_elim (λ u. inl (omega (arith, u))) (λ u. inr u) h

-- a bank that was opened
pub open-off : (lo x most a n y m : ℕ) → m < n → Off lo x (due_by most a n y m) → Off lo x (a + most + 1)
open-off lo x most a n y m l h = rw (lt-ltb m n l) at h

-- one that is closed by the record number k, which is later than its ACT, with a start at y'
pub closed-off : (lo hi x most a n y m y' k : ℕ) → lo ≤ hi → n ≤ k → Off lo x (a + most + 1) → Off hi x (due_by most a n y' k)
closed-off lo hi x most a n y m y' k l g h = rw (le-ltb k n g) (go (ltb (a + most) y'))
  where
    go : (z : Bool) → Off hi x (cond z (a + most + 1) 0)
    go true = off-later lo hi x (a + most + 1) l h
    go false = inl (omega arith)

-- one that is idle at the edge
pub idle-off : (hi x most a n y k : ℕ) → n ≤ k → y ≤ hi → Off hi x (due_by most a n y k)
idle-off hi x most a n y k g l = rw (le-ltb k n g) (go (ltb (a + most) y) refl)
  where
    go : (z : Bool) → ltb (a + most) y ≡ z → Off hi x (cond z (a + most + 1) 0)
    go true e = inl (omega (arith, ltb-true (a + most) y e))
    go false e = inl (omega arith)

-- one that is opened at the edge itself
pub opened-off : (hi x most n y m : ℕ) → x ≤ hi + most + 1 → Off hi x (due_by most hi n y m)
opened-off hi x most n y m l = go (ltb m n) (ltb (hi + most) y)
  where
    go : (u v : Bool) → Off hi x (cond u (hi + most + 1) (cond v (hi + most + 1) 0))
    go true v = inr l
    go false true = inr l
    go false false = inl (omega arith)

-- ── All banks ───────────────────────────────────────────────────────────────────────────────

abbrev pub NoneSoon : Chip → Banks → (lo x : ℕ) → Type 0
NoneSoon C B lo x = (b : ℕ) → b < 8 → Off lo x (get_or (dues_of C B) b 0)

-- the four arrays stay
pub same-soon : (C : Chip) (B B' : Banks) (lo hi x : ℕ) → lo ≤ hi → B.actat ≡ B'.actat → B.actno ≡ B'.actno → B.shutat ≡ B'.shutat → B.shutno ≡ B'.shutno
    → NoneSoon C B lo x → NoneSoon C B' hi x
same-soon C B B' lo hi x l p q u v h b z =
    off-later lo hi x _ l (subst (Off lo x) (due-at C B b z
    ∙ (λ i. due_by C.most (get_or (p i) b 0) (get_or (q i) b 0) (get_or (u i) b 0) (get_or (v i) b 0)) ∙ sym (due-at C B' b z)) (h b z))

-- bank i gets other edges and numbers
module _ (C : Chip) (B B' : Banks) (i a n y m : ℕ)
    (at : (b : ℕ) → get_or B'.actat b 0 ≡ cond (eqb i b) a (get_or B.actat b 0))
    (num : (b : ℕ) → get_or B'.actno b 0 ≡ cond (eqb i b) n (get_or B.actno b 0))
    (shut : (b : ℕ) → get_or B'.shutat b 0 ≡ cond (eqb i b) y (get_or B.shutat b 0))
    (by : (b : ℕ) → get_or B'.shutno b 0 ≡ cond (eqb i b) m (get_or B.shutno b 0)) where
  pub other-soon : (lo hi x : ℕ) → lo ≤ hi → NoneSoon C B lo x → Off hi x (due_by C.most a n y m) → NoneSoon C B' hi x
  other-soon lo hi x l h o b z =
      subst (Off hi x) (sym (due-at C B' b z)) (rw (at b, num b, shut b, by b) (go (eqb i b) refl))
    where
      go : (w : Bool) → eqb i b ≡ w
          → Off hi x (due_by C.most (cond w a (get_or B.actat b 0)) (cond w n (get_or B.actno b 0)) (cond w y (get_or B.shutat b 0)) (cond w m (get_or B.shutno b 0)))
      go true e = o
      go false e = off-later lo hi x _ l (subst (Off lo x) (due-at C B b z) (h b z))

-- ── The sooner of two ───────────────────────────────────────────────────────────────────────

-- the edge after a bank's last is not after its deadline
pub due-off : (lo most a n y m : ℕ) → Off lo (a + most + 1) (due_by most a n y m)
due-off lo most a n y m = go (ltb m n) (ltb (a + most) y)
  where
    go : (u v : Bool) → Off lo (a + most + 1) (cond u (a + most + 1) (cond v (a + most + 1) 0))
    go true v = inr (omega arith)
    go false true = inr (omega arith)
    go false false = inl (omega arith)

-- the test of which is the sooner
abbrev pub sooner : (lo x most a n y m : ℕ) → Bool
sooner lo x most a n y m = (ltb m n || ltb (a + most) y) && (leb lo (a + most) && ltb (a + most) x)

pub sooner-below : (lo x most a n y m : ℕ) → sooner lo x most a n y m ≡ true → a + most + 1 ≤ x
sooner-below lo x most a n y m h = go (ltb m n || ltb (a + most) y) (leb lo (a + most)) (ltb (a + most) x) refl h
  where
    go : (u v w : Bool) → ltb (a + most) x ≡ w → u && (v && w) ≡ true → a + most + 1 ≤ x
    go true true true e h = omega (arith, ltb-true (a + most) x e)
    go true true false e h = absurd (true≢false (sym h))
    go true false w e h = absurd (true≢false (sym h))
    go false v w e h = absurd (true≢false (sym h))

-- where it fails, the deadline is not after lo and before x
pub later-off : (lo x most a n y m : ℕ) → sooner lo x most a n y m ≡ false → Off lo x (due_by most a n y m)
later-off lo x most a n y m h = go (ltb m n) (ltb (a + most) y) (leb lo (a + most)) (ltb (a + most) x) refl refl h
  where
    out : (v w : Bool) → leb lo (a + most) ≡ v → ltb (a + most) x ≡ w → v && w ≡ false → Off lo x (a + most + 1)
    out true true e f h = absurd (true≢false h)
    out true false e f h = inr (omega (arith, ltb-false (a + most) x f))
    out false w e f h = inl (omega (arith, leb-false lo (a + most) e))

    go : (u t v w : Bool) → leb lo (a + most) ≡ v → ltb (a + most) x ≡ w → (u || t) && (v && w) ≡ false → Off lo x (cond u (a + most + 1) (cond t (a + most + 1) 0))
    go true t v w e f h = out v w e f h
    go false true v w e f h = out v w e f h
    go false false v w e f h = inl (omega arith)
