-- The views of the summary: the marks of a bank, the ring of ACTs and the device's marks are what the rules' summary keeps.
-- Assumes nothing.
use Prim.Native.Nat.{ℕ, zero, suc, ◌+◌, ◌-◌, ◌%◌, ◌≤◌, ◌<◌}
use native.Mathlib.Omega.{arith}
use mathlib.Core.Path.{◌≡◌, refl, sym, ap, ◌∙◌, fun_ext}
use mathlib.Core.Logic.{⊎_elim}
use mathlib.Core.Bool.{Bool, true, false, cond, not, ◌||◌}
use mathlib.Core.List.{[], ◌∷◌}
use lib.Dec.{eqb, ltb}
use lib.ListN.{get_or, set}
use borrow.Author.Tests.{ltb-true, ne_eqb}
use Rattle.laws.specs.Eight.{table}
use Rattle.laws.proofs.Eight.{get_or-table, get_or-first, get_or-second, table-ext}
use Rattle.records.specs.declared.Command.TheVariants.{Mrs, Ref, Act, Zq, Sre, Srx, Pdx}
use Rattle.chip.specs.declared.Chip.{Chip}
use Rattle.running.specs.Marks.{needing}
use Rattle.running.specs.Next.{mark as marked}
use Rattle.edges.specs.Views.{mark_at, mark_by, kept_of, kepts_of, rests_of, regs_of, written_of, act_back}
use Rattle.edges.specs.Views as edges
use Rattle.rules.specs.Past.{Past, edge, number, is, address_of, latest, back, has}
use Rattle.rules.specs.Registers.{dll_reset, regs}
use Rattle.rules.specs.Banks.{act_on, closes, start}
use Rattle.rules.specs.Down.{turned, slow_exit}
use Rattle.rules.proofs.Generic.{decide}
use Rattle.rules.proofs.Clean.{is-other}
use Rattle.rules.proofs.Dominate.{need4, need10, need11, need18}
use Rattle.rules.proofs.Summary.{mark, rd_on, wr_on, start_mark, kept, written, acts, rests}
use Rattle.rules.proofs.Words.{later_of_lem}
use Rattle.carries.proofs.Summary.{of, each, each_column, turn_of, ring, acts_of, banks_of, device_of}

-- ── Marks ───────────────────────────────────────────────────────────────────────────────────

-- edge, number and need, each 0 of no event, are the event's mark
pub mark-parts : (need : Past → ℕ) (s : Past) → marked (edge s) (number s) (of need s) ≡ mark need s
mark-parts need [] = refl
mark-parts need (r ∷ p) = refl

-- with a constant need
pub mark-by : (n : ℕ) (s : Past) → needing n (marked (edge s) (number s) 0) ≡ mark (λ _. n) s
unfolding needing
mark-by n [] = refl
mark-by n (r ∷ p) = rw (ne_eqb (number (r ∷ p)) 0 (λ z. omega arith))

pub start-by : (C : Chip) (s : Past) → needing C.trp (marked (of (start C) s) (number s) 0) ≡ start_mark C s
unfolding needing
start-by C [] = refl
start-by C (r ∷ p) = rw (ne_eqb (number (r ∷ p)) 0 (λ z. omega arith))

-- ── A bank ──────────────────────────────────────────────────────────────────────────────────

module _ (C : Chip) (p : Past) where
  pub kept-view : (b : ℕ) → b < 8 → kept_of C (banks_of C p) b ≡ kept C p b
  unfolding kept_of kept banks_of
  kept-view b l = λ i. record {
    acted = (acted ∙ mark-parts (need4 C) (latest (act_on b) p)) i;
    row = get_or-table (λ b. address_of (latest (act_on b) p)) b 0 l i;
    read = (read ∙ mark-parts (need10 C) (latest (rd_on b) p)) i;
    wrote = (wrote ∙ mark-parts (need11 C) (latest (wr_on b) p)) i;
    shut = (shut ∙ start-by C (latest (closes b) p)) i;
  }
    where
      acted : mark_at (each edge act_on p) (each number act_on p) (each (of (need4 C)) act_on p) b
          ≡ marked (edge (latest (act_on b) p)) (number (latest (act_on b) p)) (of (need4 C) (latest (act_on b) p))
      acted = λ i. marked
          (get_or-table (λ b. edge (latest (act_on b) p)) b 0 l i)
          (get_or-table (λ b. number (latest (act_on b) p)) b 0 l i)
          (get_or-table (λ b. of (need4 C) (latest (act_on b) p)) b 0 l i)

      read : mark_at (each_column edge edge p) (each_column number number p) (each_column (of (need10 C)) (of (need11 C)) p) b
          ≡ marked (edge (latest (rd_on b) p)) (number (latest (rd_on b) p)) (of (need10 C) (latest (rd_on b) p))
      read = λ i. marked
          (get_or-first (λ b. edge (latest (rd_on b) p)) (λ b. edge (latest (wr_on b) p)) b 0 l i)
          (get_or-first (λ b. number (latest (rd_on b) p)) (λ b. number (latest (wr_on b) p)) b 0 l i)
          (get_or-first (λ b. of (need10 C) (latest (rd_on b) p)) (λ b. of (need11 C) (latest (wr_on b) p)) b 0 l i)

      wrote : mark_at (each_column edge edge p) (each_column number number p) (each_column (of (need10 C)) (of (need11 C)) p) (b + 8)
          ≡ marked (edge (latest (wr_on b) p)) (number (latest (wr_on b) p)) (of (need11 C) (latest (wr_on b) p))
      wrote = λ i. marked
          (get_or-second (λ b. edge (latest (rd_on b) p)) (λ b. edge (latest (wr_on b) p)) b 0 l i)
          (get_or-second (λ b. number (latest (rd_on b) p)) (λ b. number (latest (wr_on b) p)) b 0 l i)
          (get_or-second (λ b. of (need10 C) (latest (rd_on b) p)) (λ b. of (need11 C) (latest (wr_on b) p)) b 0 l i)

      shut : mark_by C.trp (each (of (start C)) closes p) (each number closes p) b
          ≡ needing C.trp (marked (of (start C) (latest (closes b) p)) (number (latest (closes b) p)) 0)
      shut = λ i. needing C.trp (marked
          (get_or-table (λ b. of (start C) (latest (closes b) p)) b 0 l i)
          (get_or-table (λ b. number (latest (closes b) p)) b 0 l i) 0)

  pub kepts-view : kepts_of C (banks_of C p) ≡ table (kept C p)
  kepts-view = table-ext (kept_of C (banks_of C p)) (kept C p) kept-view

-- ── The ring ────────────────────────────────────────────────────────────────────────────────

pub turn_small : (p : Past) → turn_of p ≤ 3
unfolding turn_of
turn_small [] = omega arith
turn_small (r ∷ p) = ⊎_elim
    (λ (y : is Act (r ∷ p) ≡ true). rw y (omega arith))
    (λ (n : is Act (r ∷ p) ≡ false). rw n (turn_small p))
    (decide (is Act (r ∷ p)))

-- the place of the one that has n after it
pub ring-at : {A : Type 0} (t n : ℕ) (f : ℕ → A) (d : A) → t ≤ 3 → n ≤ 3 → get_or (ring t f) ((t + (3 - n)) % 4) d ≡ f n
unfolding ring
ring-at zero zero f d h l = refl
ring-at zero (suc zero) f d h l = refl
ring-at zero (suc (suc zero)) f d h l = refl
ring-at zero (suc (suc (suc zero))) f d h l = refl
ring-at (suc zero) zero f d h l = refl
ring-at (suc zero) (suc zero) f d h l = refl
ring-at (suc zero) (suc (suc zero)) f d h l = refl
ring-at (suc zero) (suc (suc (suc zero))) f d h l = refl
ring-at (suc (suc zero)) zero f d h l = refl
ring-at (suc (suc zero)) (suc zero) f d h l = refl
ring-at (suc (suc zero)) (suc (suc zero)) f d h l = refl
ring-at (suc (suc zero)) (suc (suc (suc zero))) f d h l = refl
ring-at (suc (suc (suc zero))) zero f d h l = refl
ring-at (suc (suc (suc zero))) (suc zero) f d h l = refl
ring-at (suc (suc (suc zero))) (suc (suc zero)) f d h l = refl
ring-at (suc (suc (suc zero))) (suc (suc (suc zero))) f d h l = refl
ring-at zero (suc (suc (suc (suc n)))) f d h l = absurd (omega arith)
ring-at (suc zero) (suc (suc (suc (suc n)))) f d h l = absurd (omega arith)
ring-at (suc (suc zero)) (suc (suc (suc (suc n)))) f d h l = absurd (omega arith)
ring-at (suc (suc (suc zero))) (suc (suc (suc (suc n)))) f d h l = absurd (omega arith)
ring-at (suc (suc (suc (suc t)))) n f d h l = absurd (omega arith)

-- one more takes the place of the oldest
pub ring-set : {A : Type 0} (t : ℕ) (f g : ℕ → A) (v : A) → t ≤ 3 → v ≡ g 0 → ((n : ℕ) → f n ≡ g (suc n))
    → set (ring t f) t v ≡ ring ((t + 1) % 4) g
unfolding ring
ring-set zero f g v h z e = λ i. z i ∷ e 2 i ∷ e 1 i ∷ e 0 i ∷ []
ring-set (suc zero) f g v h z e = λ i. e 0 i ∷ z i ∷ e 2 i ∷ e 1 i ∷ []
ring-set (suc (suc zero)) f g v h z e = λ i. e 1 i ∷ e 0 i ∷ z i ∷ e 2 i ∷ []
ring-set (suc (suc (suc zero))) f g v h z e = λ i. e 2 i ∷ e 1 i ∷ e 0 i ∷ z i ∷ []
ring-set (suc (suc (suc (suc t)))) f g v h z e = absurd (omega arith)

module _ (C : Chip) (p : Past) where
  pub back-view : (n : ℕ) → n ≤ 3 → act_back C (acts_of p) n ≡ mark (λ _. C.tras) (back (is Act) n p)
  unfolding acts_of
  back-view n l =
      (λ i. needing C.tras (record {
        at = ring-at (turn_of p) n (λ n. edge (back (is Act) n p)) 0 (turn_small p) l i;
        num = ring-at (turn_of p) n (λ n. number (back (is Act) n p)) 0 (turn_small p) l i;
        need = 0;
      }))
      ∙ mark-by C.tras (back (is Act) n p)

  pub acts-view : edges.acts_of C (acts_of p) ≡ acts C p
  unfolding acts
  acts-view = λ i.
      back-view 0 (omega arith) i ∷ back-view 1 (omega arith) i ∷ back-view 2 (omega arith) i ∷ back-view 3 (omega arith) i ∷ []

  -- ── The device ────────────────────────────────────────────────────────────────────────────

  srx-not-reset : (s : Past) → is Srx s ≡ true → dll_reset s ≡ false
  srx-not-reset s y = rw (is-other Srx Mrs s (λ z. omega arith) y)

  or_swap : (x y : Bool) → x || y ≡ y || x
  or_swap true true = refl
  or_swap true false = refl
  or_swap false true = refl
  or_swap false false = refl

  some-mark : (n : ℕ) (s : Past) → 0 < number s → marked (edge s) (number s) n ≡ mark (λ _. n) s
  some-mark n [] l = absurd (omega arith)
  some-mark n (r ∷ s) l = refl

  reset-view :
      cond (ltb (number (latest dll_reset p)) (number (latest (is Srx) p)))
      (marked (edge (latest (is Srx) p)) (number (latest (is Srx) p)) 512)
      (marked (edge (latest dll_reset p)) (number (latest dll_reset p)) (of (λ _. 512) (latest dll_reset p)))
      ≡ mark (λ _. 512) (latest (λ s. dll_reset s || is Srx s) p)
  reset-view =
      go (ltb (number (latest dll_reset p)) (number (latest (is Srx) p))) refl
      ∙ ap (mark (λ _. 512))
      (sym (later_of_lem (is Srx) dll_reset srx-not-reset p) ∙ ap (λ (k : Past → Bool). latest k p) (fun_ext (λ s. or_swap (is Srx s) (dll_reset s))))
    where
      go : (x : Bool) → ltb (number (latest dll_reset p)) (number (latest (is Srx) p)) ≡ x
          → cond x (marked (edge (latest (is Srx) p)) (number (latest (is Srx) p)) 512)
          (marked (edge (latest dll_reset p)) (number (latest dll_reset p)) (of (λ _. 512) (latest dll_reset p)))
          ≡ mark (λ _. 512) (cond x (latest (is Srx) p) (latest dll_reset p))
      go true y = some-mark 512 (latest (is Srx) p) (omega (arith, ltb-true (number (latest dll_reset p)) (number (latest (is Srx) p)) y))
      go false n = mark-parts (λ _. 512) (latest dll_reset p)

  pub rests-view : rests_of (device_of C p) ≡ rests C p
  unfolding rests_of device_of rests
  rests-view = λ i. record {
    refreshed = mark-parts (λ _. C.trfc) (latest (is Ref) p) i;
    tuned = mark-parts (need18 C) (latest (is Zq) p) i;
    reset = reset-view i;
    woke = mark-parts (λ _. C.txs) (latest (is Srx) p) i;
    slept = mark-parts (λ _. C.tcke + 1) (latest (is Sre) p) i;
    turned = mark-parts (λ _. C.tcke) (turned p) i;
    left = mark-parts (λ _. C.txp) (latest (is Pdx) p) i;
    slow = mark-parts (λ _. C.txpdll) (latest (slow_exit C) p) i;
  }

  pub mrs-view : edges.device_mark (device_of C p) edges.MRS ≡ mark (λ _. 4) (latest (is Mrs) p)
  unfolding device_of
  mrs-view = mark-parts (λ _. 4) (latest (is Mrs) p)

  pub regs-view : regs_of (device_of C p) ≡ regs p
  unfolding device_of regs
  regs-view = refl

-- there is one just if the latest has a number
pub has-number : (k : Past → Bool) (p : Past) → not (eqb (number (latest k p)) 0) ≡ has k p
has-number k [] = refl
has-number k (r ∷ p) = ⊎_elim
    (λ (y : k (r ∷ p) ≡ true). rw (y, ne_eqb (number (r ∷ p)) 0 (λ z. omega arith)))
    (λ (n : k (r ∷ p) ≡ false). rw n (has-number k p))
    (decide (k (r ∷ p)))

pub written-view : (C : Chip) (p : Past) → written_of (device_of C p) ≡ written C p
unfolding device_of written
written-view C p = λ i. record {
  w0 = (written C p).w0;
  w1 = (written C p).w1;
  w2 = (written C p).w2;
  w3 = (written C p).w3;
  dll = has-number dll_reset p i;
}
