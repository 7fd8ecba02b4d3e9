-- The checks of the rules at a record that are no least spacings (1, 2, 3, 5, 8 and 23) name the pair that 01 names.
-- Assumes nothing.
use Prim.Native.Nat.{ℕ, ◌-◌, ◌≤◌, ◌<◌}
use native.Mathlib.Omega.{arith}
use mathlib.Core.Path.{◌≡◌, refl, sym, ◌∙◌, subst}
use mathlib.Core.Logic.{⊎_elim}
use mathlib.Core.Bool.{Bool, true, false, cond, ◌&&◌, ◌||◌}
use mathlib.Core.List.{[], ◌∷◌}
use lib.Dec.{ltb}
use borrow.Author.Tests.{ltb-true}
use Rattle.answers.specs.declared.Break.{Break}
use Rattle.answers.specs.declared.Break.TheVariants.{Fine, Broken}
use Rattle.records.specs.declared.Record.{Record}
use Rattle.records.specs.declared.Command.TheVariants.{Mrs, Ref, Act, Rd, Sre, Srx, Bad}
use Rattle.chip.specs.declared.Chip.{Chip}
use Rattle.rules.specs.Past.{Past, edge, number, command, is, bank_of, latest, back, greatest}
use Rattle.rules.specs.Banks.{closes, shuts, act_num, start, status}
use Rattle.rules.specs.Rules.{barred, demand, rule1, rule2, rule3, rule5, rule8, rule23, since, fourth}
use Rattle.rules.proofs.Generic.{decide}
use Rattle.rules.proofs.Events.{never, greatest-is}
use Rattle.rules.proofs.Starts.{start_none}
use Rattle.rules.proofs.Clean.{wants_all}
use Rattle.means.specs.Partners.{Fourth}
use Rattle.means.specs.Pairs.{None, speaks_of, may_find, Way-pair, Lacks, code, registers, reset, Closing-kind, own, any, Start-pair, Fourth-pair, Woken-pair}
use Rattle.means.proofs.Partners.{fine-broken, latest-sense, Lowest, lowest-sense, act-number, fourth-is}

module _ (C : Chip) (r : Record) (p : Past) where
  abbrev e : ℕ
  e = edge (r ∷ p)

  pub pair1 : (k n m f : ℕ) → rule1 C r p ≡ Broken k n m f → (k ≡ 1) × (is Bad (r ∷ p) ≡ true) × (n ≡ 0) × None m f
  pair1 k n m f h = ⊎_elim
      (λ (y : is Bad (r ∷ p) ≡ true). let g : Broken 1 0 0 0 ≡ Broken k n m f = rw y at h in (cc, y, cc, (cc, cc)))
      (λ (z : is Bad (r ∷ p) ≡ false). fine-broken (rw z at h))
      (decide (is Bad (r ∷ p)))

  pub pair2 : (k n m f : ℕ) → rule2 C r p ≡ Broken k n m f → (k ≡ 2) × Way-pair C r p n m f
  pair2 k n m f h = go (lowest-sense _ 8 k n m f h)
    where
      barred-at : ℕ → Break
      barred-at b = barred (command (r ∷ p)) (speaks_of C r p b) (status C b p e)

      bad : (x y : Bool) (a : ℕ) → cond x (cond y Fine (Broken 2 a 0 0)) Fine ≡ Broken k n m f → (k ≡ 2) × (x ≡ true) × (y ≡ false) × (n ≡ a) × None m f
      bad true true a g = fine-broken g
      bad true false a g = (cc, refl, refl, cc, (cc, cc))
      bad false y a g = fine-broken g

      good : (x y : Bool) (a : ℕ) → cond x (cond y Fine (Broken 2 a 0 0)) Fine ≡ Fine → x ≡ true → y ≡ true
      good true true a g u = refl
      good true false a g u = fine-broken (sym g)
      good false y a g u = never u refl

      go : Lowest barred-at 8 (Broken k n m f) → (k ≡ 2) × Way-pair C r p n m f
      go w =
          let b = bad (speaks_of C r p w.bank) (may_find C r p w.bank) (act_num (status C w.bank p e)) w.here-is in (
            b.0,
            record {
              bank = w.bank;
              below = w.below;
              speaks = b.1;
              in-the-way = b.2;
              lower = λ c l. good (speaks_of C r p c) (may_find C r p c) (act_num (status C c p e)) (w.lower c l);
              partner-is = b.3 ∙ act-number C w.bank e p;
              clocks = b.4;
            },
          )

  pub pair3 : (k n m f : ℕ) → rule3 C r p ≡ Broken k n m f → (k ≡ 3) × Lacks C r p f × (n ≡ 0) × (m ≡ 0)
  pair3 k n m f h = ⊎_elim
      (λ (y : is Mrs (r ∷ p) ≡ true). lack _ _ (code y) (rw y at h))
      (λ (z : is Mrs (r ∷ p) ≡ false). ⊎_elim
      (λ (y : is Act (r ∷ p) ≡ true). lack _ 0 (registers y) (rw (z, y) at h))
      (λ (u : is Act (r ∷ p) ≡ false). ⊎_elim
      (λ (y : is Rd (r ∷ p) ≡ true). lack _ 0 (reset y) (rw (z, u, y) at h))
      (λ (v : is Rd (r ∷ p) ≡ false). fine-broken (rw (z, u, v) at h))
      (decide (is Rd (r ∷ p))))
      (decide (is Act (r ∷ p))))
      (decide (is Mrs (r ∷ p)))
    where
      found-is : {found : ℕ} → Broken 3 0 0 found ≡ Broken k n m f → found ≡ f
      found-is g = cc

      lack : (x : Bool) (found : ℕ) → (x ≡ false → Lacks C r p found) → demand x found ≡ Broken k n m f → (k ≡ 3) × Lacks C r p f × (n ≡ 0) × (m ≡ 0)
      lack true found l g = fine-broken g
      lack false found l g = (cc, subst (λ x. Lacks C r p x) (found-is g) (l refl), cc, cc)

  pub pair5 : (k n m f : ℕ) → rule5 C r p ≡ Broken k n m f → (k ≡ 5) × Start-pair C r p n m f
  pair5 k n m f h = ⊎_elim
      (λ (y : is Act (r ∷ p) ≡ true). from (closes (bank_of (r ∷ p))) (own y) (rw y at h))
      (λ (z : is Act (r ∷ p) ≡ false). ⊎_elim
      (λ (y : wants_all (r ∷ p) ≡ true). from shuts (any y) (rw (z, y) at h))
      (λ (u : wants_all (r ∷ p) ≡ false). fine-broken (rw (z, u) at h))
      (decide (wants_all (r ∷ p))))
      (decide (is Act (r ∷ p)))
    where
      found : (s : Past) → since C e s ≡ Broken k n m f → (k ≡ 5) × (n ≡ number s) × (m ≡ C.trp) × (f ≡ e - start C s) × (f < m)
      found [] g = fine-broken g
      found (q ∷ s) g = ⊎_elim
          (λ (y : ltb (e - start C (q ∷ s)) C.trp ≡ true).
          let w : Broken 5 (number (q ∷ s)) C.trp (e - start C (q ∷ s)) ≡ Broken k n m f = rw y at g in
          let need : C.trp ≡ m = cc in
          let was : e - start C (q ∷ s) ≡ f = cc in
          (cc, cc, cc, cc, omega (arith, ltb-true)))
          (λ (z : ltb (e - start C (q ∷ s)) C.trp ≡ false). fine-broken (rw z at g))
          (decide (ltb (e - start C (q ∷ s)) C.trp))

      from : (kind : Past → Bool) → Closing-kind C r p kind → since C e (greatest kind (start C) p) ≡ Broken k n m f → (k ≡ 5) × Start-pair C r p n m f
      from kind l g =
          let w = found (greatest kind (start C) p) g in (
            w.0,
            record {
              kind = kind;
              looks = l;
              event = greatest kind (start C) p;
              latest-start = ⊎_elim (λ x. fine-broken (rw x.0 at g)) (λ x. x) (greatest-is kind (start C) (start_none C) p);
              partner-is = w.1;
              needed-is = w.2;
              found-is = w.3;
              too_few = w.4;
            },
          )

  pub pair8 : (k n m f : ℕ) → rule8 C r p ≡ Broken k n m f → (k ≡ 8) × Fourth-pair C r p n m f
  pair8 k n m f h = ⊎_elim
      (λ (y : is Act (r ∷ p) ≡ true). from y (back (is Act) 3 p) (fourth-is p) (rw y at h))
      (λ (z : is Act (r ∷ p) ≡ false). fine-broken (rw z at h))
      (decide (is Act (r ∷ p)))
    where
      from : is Act (r ∷ p) ≡ true → (s : Past) → (1 ≤ number s → Fourth p s) → fourth C e s ≡ Broken k n m f → (k ≡ 8) × Fourth-pair C r p n m f
      from y [] b g = fine-broken g
      from y (q ∷ s) b g = ⊎_elim
          (λ (t : ltb (e - edge (q ∷ s)) C.tfaw ≡ true).
          let w : Broken 8 (number (q ∷ s)) C.tfaw (e - edge (q ∷ s)) ≡ Broken k n m f = rw t at g in
          let need : C.tfaw ≡ m = cc in
          let was : e - edge (q ∷ s) ≡ f = cc in (
            cc,
            record {
              later = y;
              event = q ∷ s;
              fourth-back = b (omega arith);
              partner-is = cc;
              needed-is = cc;
              found-is = cc;
              too_few = omega (arith, ltb-true);
            },
          ))
          (λ (t : ltb (e - edge (q ∷ s)) C.tfaw ≡ false). fine-broken (rw t at g))
          (decide (ltb (e - edge (q ∷ s)) C.tfaw))

  pub pair23 : (k n m f : ℕ) → rule23 C r p ≡ Broken k n m f → (k ≡ 23) × Woken-pair C r p n m f
  pair23 k n m f h = go (is Sre (r ∷ p)) refl (is Srx s) refl h
    where
      s : Past
      s = latest (λ t. is Srx t || is Ref t) p

      some : (t : Past) → is Srx t ≡ true → 1 ≤ number t
      some [] y = never y refl
      some (q ∷ t) y = omega arith

      go : (x : Bool) → is Sre (r ∷ p) ≡ x → (y : Bool) → is Srx s ≡ y → cond (x && y) (Broken 23 (number s) 0 0) Fine ≡ Broken k n m f
          → (k ≡ 23) × Woken-pair C r p n m f
      go true a true b g = (
        cc,
        record {
          later = a;
          event = s;
          woke = b;
          latest-of = latest-sense (λ t. is Srx t || is Ref t) p (some s b);
          partner-is = cc;
          clocks = (cc, cc);
        },
      )
      go true a false b g = fine-broken g
      go false a y b g = fine-broken g
