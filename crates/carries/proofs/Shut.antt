-- The latest precharge start of all banks, of equals that of the later record, from the latest start of each of the eight banks.
-- Assumes nothing.
use Prim.Native.Nat.{ℕ, zero, suc, ◌≤◌, ◌<◌}
use native.Mathlib.Omega.{arith}
use native.Mathlib.Decide.{ℕ_discrete}
use mathlib.Core.Path.{◌≡◌, refl, sym, ap, ◌∙◌, subst}
use mathlib.Core.Logic.{⊎_elim}
use mathlib.Core.Bool.{Bool, true, false, cond, ◌&&◌, ◌||◌}
use mathlib.Core.List.{List, [], ◌∷◌}
use lib.Dec.{eqb, ltb}
use lib.ListN.{get_or}
use borrow.Author.Tests.{ltb-true, ltb-false, eqb-true, eqb-false, eq-eqb}
use Rattle.laws.proofs.Eight.{get_or-table}
use Rattle.records.specs.declared.Command.TheVariants.{Pre}
use Rattle.chip.specs.declared.Chip.{Chip}
use Rattle.running.specs.Marks.{needing}
use Rattle.running.specs.Next.{mark as marked}
use Rattle.edges.specs.Views.{last_start, starts_after, shut_of}
use Rattle.rules.specs.Past.{Past, number, is, bank_of, on, column, a10_of, ◌∈◌, here, there, latest, greatest, Greatest}
use Rattle.rules.specs.Banks.{closes, shuts, start}
use Rattle.rules.proofs.Generic.{decide}
use Rattle.rules.proofs.Events.{never, number-le, event-some, latest-is, greatest-is, greatest-one}
use Rattle.rules.proofs.Clean.{Clean}
use Rattle.rules.proofs.Starts.{start_none, greatest-latest}
use Rattle.rules.proofs.Dominate.{bank-small}
use Rattle.rules.proofs.Summary.{start_mark}
use Rattle.rules.proofs.Moves.{own-close}
use Rattle.carries.proofs.Summary.{of, each, banks_of}
use Rattle.carries.proofs.Views.{start-by}

-- ── The bank of the greatest start ──────────────────────────────────────────────────────────

-- bank b does not start after bank x
record NotAfter (at num : List ℕ) (x b : ℕ) : Type 0 where
  start : get_or at b 0 ≤ get_or at x 0
  later : get_or at x 0 ≤ get_or at b 0 → get_or num b 0 ≤ get_or num x 0

module _ (at num : List ℕ) where
  not_after : (x b : ℕ) → starts_after at num x b ≡ false → NotAfter at num x b
  not_after x b h = go (ltb (get_or at x 0) (get_or at b 0)) refl (eqb (get_or at x 0) (get_or at b 0)) refl (ltb (get_or num x 0) (get_or num b 0)) refl h
    where
      go : (u : Bool) → ltb (get_or at x 0) (get_or at b 0) ≡ u → (v : Bool) → eqb (get_or at x 0) (get_or at b 0) ≡ v
          → (w : Bool) → ltb (get_or num x 0) (get_or num b 0) ≡ w → u || v && w ≡ false → NotAfter at num x b
      go true a v c w d z = never refl z
      go false a true c true d z = never refl z
      go false a true c false d z = record { start = ltb-false _ _ a; later = λ _. ltb-false _ _ d }
      go false a false c w d z =
          let k = ltb-false (get_or at x 0) (get_or at b 0) a in
          record { start = k; later = λ l. absurd (eqb-false (get_or at x 0) (get_or at b 0) c (omega arith)) }

  after_is : (x b : ℕ) → starts_after at num x b ≡ true → NotAfter at num b x
  after_is x b h = go (ltb (get_or at x 0) (get_or at b 0)) refl (eqb (get_or at x 0) (get_or at b 0)) refl (ltb (get_or num x 0) (get_or num b 0)) refl h
    where
      go : (u : Bool) → ltb (get_or at x 0) (get_or at b 0) ≡ u → (v : Bool) → eqb (get_or at x 0) (get_or at b 0) ≡ v
          → (w : Bool) → ltb (get_or num x 0) (get_or num b 0) ≡ w → u || v && w ≡ true → NotAfter at num b x
      go true a v c w d z =
          let l = ltb-true (get_or at x 0) (get_or at b 0) a in
          record { start = omega arith; later = λ m. absurd (omega arith) }
      go false a true c true d z =
          let e = eqb-true (get_or at x 0) (get_or at b 0) c in
          let l = ltb-true (get_or num x 0) (get_or num b 0) d in
          record { start = omega arith; later = λ m. omega arith }
      go false a true c false d z = never z refl
      go false a false c w d z = never z refl

  trans-after : (x y b : ℕ) → NotAfter at num x y → NotAfter at num y b → NotAfter at num x b
  trans-after x y b f g =
      record { start = omega (arith, f.start, g.start); later = λ l. omega (arith, f.later (omega (arith, g.start)), g.later (omega (arith, f.start))) }

  same_after : (x : ℕ) → NotAfter at num x x
  same_after x = record { start = omega arith; later = λ l. omega arith }

  last-start : (n : ℕ) → (last_start at num n ≤ n) × ((b : ℕ) → b ≤ n → NotAfter at num (last_start at num n) b)
  unfolding last_start
  last-start zero = (omega arith, λ b l. let e : 0 ≡ b = omega arith in subst (NotAfter at num 0) e (same_after 0))
  last-start (suc n) = go (last_start at num n) (last-start n)
    where
      top : (x : ℕ) → ((b : ℕ) → b ≤ n → NotAfter at num x b) → NotAfter at num x (suc n) → (b : ℕ) → b ≤ suc n → NotAfter at num x b
      top x f z b l = elim (ℕ_discrete b (suc n)) [ yes q ↦ subst (NotAfter at num x) (sym q) z | no q ↦ f b (omega arith) ]

      go : (x : ℕ) → (x ≤ n) × ((b : ℕ) → b ≤ n → NotAfter at num x b)
          → (cond (starts_after at num x (suc n)) (suc n) x ≤ suc n) × ((b : ℕ) → b ≤ suc n → NotAfter at num (cond (starts_after at num x (suc n)) (suc n) x) b)
      go x w = ⊎_elim
          (λ (y : starts_after at num x (suc n) ≡ true).
          rw y (omega arith, top (suc n) (λ b l. trans-after (suc n) x b (after_is x (suc n) y) (w.1 b l)) (same_after (suc n))))
          (λ (z : starts_after at num x (suc n) ≡ false).
          rw z (omega (arith, w.0), top x w.1 (not_after x (suc n) z)))
          (decide (starts_after at num x (suc n)))

-- ── Of a clean past ─────────────────────────────────────────────────────────────────────────

-- events of one number are one
same_number : {s t p : Past} → s ∈ p → t ∈ p → number s ≡ number t → s ≡ t
same_number here here e = refl
same_number here (there j) e = absurd (omega (arith, number-le j))
same_number (there i) here e = absurd (omega (arith, number-le i))
same_number (there i) (there j) e = same_number i j e

shuts-own : (s : Past) → shuts s ≡ true → closes (bank_of s) s ≡ true
shuts-own s y = rw (eq-eqb (bank_of s) (bank_of s) refl) (own-close (is Pre s) (a10_of s) (column s) ∙ y)

pub closes-shuts : (b : ℕ) (s : Past) → closes b s ≡ true → shuts s ≡ true
closes-shuts b s y = go (is Pre s) (a10_of s) (column s) (on b s) y
  where
    go : (x a c o : Bool) → x && (a || o) || c && (a && o) ≡ true → x || c && a ≡ true
    go true a c o h = refl
    go false true true o h = refl
    go false true false o h = h
    go false false true o h = h
    go false false false o h = h

of-start : (C : Chip) (s : Past) → of (start C) s ≡ start C s
of-start C [] = sym (start_none C)
of-start C (r ∷ p) = refl

module _ (C : Chip) (p : Past) (h : Clean C p) where
  abbrev closed : ℕ → Past
  closed b = latest (closes b) p

  -- the closing event of a bank than which no bank's starts later
  is-greatest : (i : ℕ) → i < 8
      → ((b : ℕ) → b < 8 → (start C (closed b) ≤ start C (closed i)) × (start C (closed i) ≤ start C (closed b) → number (closed b) ≤ number (closed i)))
      → closed i ≡ greatest shuts (start C) p
  is-greatest i l most = ⊎_elim none some (greatest-is shuts (start C) (start_none C) p)
    where
      g : Past
      g = greatest shuts (start C) p

      none : (g ≡ []) × ((t : Past) → t ∈ p → shuts t ≡ false) → closed i ≡ g
      none w = ⊎_elim (λ e. e ∙ sym w.0) (λ v. never (closes-shuts i (closed i) v.1) (w.1 (closed i) v.0)) (latest-is (closes i) p)

      some : Greatest shuts (start C) p g → closed i ≡ g
      some w = ⊎_elim
          (λ (e : closed i ≡ []).
          let n : number (closed i) ≡ 0 = ap number e in
          let s : start C (closed i) ≡ 0 = ap (start C) e ∙ start_none C in
          absurd (omega (arith, event-some w.event, ap number own, (most b (bank-small g)).1 (omega arith))))
          (λ v. same_number v.0 w.event
          (let u = w.most (closed i) v.0 (closes-shuts i (closed i) v.1) in
          let a = most b (bank-small g) in
          let x : start C (closed b) ≡ start C g = ap (start C) own in
          let y : number (closed b) ≡ number g = ap number own in
          let c : ¬ (number g < number (closed i)) = λ m. let k = w.last (closed i) v.0 (closes-shuts i (closed i) v.1) m in omega (arith, a.0) in
          omega (arith, a.0, a.1 (omega (arith, a.0)))))
          (latest-is (closes i) p)
        where
          b : ℕ
          b = bank_of g

          own : closed (bank_of g) ≡ g
          own =
              let z = shuts-own g w.kind in
              ⊎_elim
              (λ v. never z (v.1 g w.event))
              (λ (v : Greatest (closes (bank_of g)) (start C) p (greatest (closes (bank_of g)) (start C) p)).
              sym (greatest-latest C (bank_of g) (bank-small g) p h)
              ∙ same_number v.event w.event (greatest-one (closes (bank_of g)) (start C) v (part z)))
              (greatest-is (closes (bank_of g)) (start C) (start_none C) p)
            where
              part : closes (bank_of g) g ≡ true → Greatest (closes (bank_of g)) (start C) p g
              part z =
                  record {
                    event = w.event;
                    kind = z;
                    most = λ t i y. w.most t i (closes-shuts (bank_of g) t y);
                    last = λ t i y. w.last t i (closes-shuts (bank_of g) t y);
                  }

  pub shut-view : shut_of C (banks_of C p) ≡ start_mark C (greatest shuts (start C) p)
  unfolding shut_of banks_of
  shut-view =
      let w = last-start (each (of (start C)) closes p) (each number closes p) 7 in
      let i = last_start (each (of (start C)) closes p) (each number closes p) 7 in
      let l : last_start (each (of (start C)) closes p) (each number closes p) 7 < 8 = omega (arith, w.0) in
      (λ j. needing C.trp (marked (get_or-table (λ b. of (start C) (closed b)) i 0 l j) (get_or-table (λ b. number (closed b)) i 0 l j) 0))
      ∙ start-by C (closed i)
      ∙ ap (start_mark C) (is-greatest i l (λ b m. as-events i b l m (w.1 b (omega arith))))
    where
      as-events : (i b : ℕ) → i < 8 → b < 8 → NotAfter (each (of (start C)) closes p) (each number closes p) i b
          → (start C (closed b) ≤ start C (closed i)) × (start C (closed i) ≤ start C (closed b) → number (closed b) ≤ number (closed i))
      as-events i b l m w =
          let x = get_or-table (λ b. of (start C) (closed b)) i 0 l ∙ of-start C (closed i) in
          let y = get_or-table (λ b. of (start C) (closed b)) b 0 m ∙ of-start C (closed b) in
          let u = get_or-table (λ b. number (closed b)) i 0 l in
          let v = get_or-table (λ b. number (closed b)) b 0 m in
          (omega (arith, w.start), λ k. omega (arith, w.later (omega arith)))
