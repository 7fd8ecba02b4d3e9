-- What the registers in force ask for, worked out before the record.
-- Assumes nothing.
use Prim.Native.Nat.{ℕ, ◌+◌, ◌-◌, ◌/◌, ◌%◌, max}
use native.Mathlib.Omega.{arith}
use mathlib.Core.Bool.{Bool, true, false, cond}
use mathlib.Core.Path.{◌≡◌, refl, ap, ◌∙◌}
use lib.Dec.{eqb}
use Rattle.codes.specs.Codes.{burst}
use Rattle.records.specs.declared.Command.TheVariants.{Rd, Wr}
use Rattle.chip.specs.declared.Chip.{Chip}
use Rattle.chip.specs.declared.Regs.{Regs}
use Rattle.chip.specs.Latencies.{al_of, cl_of, cwl_of, wr_of, h_of, b_of}
use Rattle.running.specs.declared.Asks.{Asks}
use Rattle.running.specs.Next.{need4, need10, need11, start_now}
use Rattle.running.specs.Easy.{asks_of, Asked}

-- only A12 of an address counts
b-by-a12 : (g : Regs) (a : ℕ) → cond (eqb (a / 4096 % 2) 1) (b_of g 4096) (b_of g 0) ≡ b_of g a
unfolding b_of
b-by-a12 g a = go (eqb (a / 4096 % 2) 1)
  where
    go : (x : Bool) → ◌≡◌ {A = ℕ} (cond x (cond (eqb (burst g.mr0) 0) 4 (cond (eqb (burst g.mr0) 1) 4 2)) (cond (eqb (burst g.mr0) 0) 4 (cond (eqb (burst g.mr0) 1) 2 2)))
        (cond (eqb (burst g.mr0) 0) 4 (cond (eqb (burst g.mr0) 1) (cond x 4 2) 2))
    go true = refl
    go false = refl

module _ (C : Chip) (g : Regs) (w : Asks) (asked : Asked C g w) where
  pub n4-is : w.n4 ≡ need4 C g
  unfolding asks_of
  n4-is = ap (λ (v : Asks). v.n4) asked.is

  pub n10-is : w.n10 ≡ need10 C g
  unfolding asks_of
  n10-is = ap (λ (v : Asks). v.n10) asked.is

  pub n11-is : w.n11 ≡ need11 C g
  unfolding asks_of
  n11-is = ap (λ (v : Asks). v.n11) asked.is

  pub n14-is : w.n14 ≡ cwl_of g + h_of g + C.twtr
  unfolding asks_of
  n14-is = ap (λ (v : Asks). v.n14) asked.is

  start_is : w.start ≡ al_of g + cwl_of g + h_of g + wr_of g
  unfolding asks_of
  start_is = ap (λ (v : Asks). v.start) asked.is

  pub n13-is : (a : ℕ) → cond (eqb (a / 4096 % 2) 1) w.long13 w.short13 ≡ cl_of g + 2 + b_of g a - cwl_of g
  unfolding asks_of
  n13-is a = rw asked.is (go (eqb (a / 4096 % 2) 1) ∙ ap (λ b. cl_of g + 2 + b - cwl_of g) (b-by-a12 g a))
    where
      go : (x : Bool) → cond x (cl_of g + 2 + b_of g 4096 - cwl_of g) (cl_of g + 2 + b_of g 0 - cwl_of g) ≡ cl_of g + 2 + cond x (b_of g 4096) (b_of g 0) - cwl_of g
      go true = refl
      go false = refl

  pub n19-is : (a : ℕ) → cond (eqb (a / 4096 % 2) 1) w.long19 w.short19 ≡ al_of g + cl_of g + b_of g a
  unfolding asks_of
  n19-is a = rw asked.is (go (eqb (a / 4096 % 2) 1) ∙ ap (λ b. al_of g + cl_of g + b) (b-by-a12 g a))
    where
      go : (x : Bool) → cond x (al_of g + cl_of g + b_of g 4096) (al_of g + cl_of g + b_of g 0) ≡ al_of g + cl_of g + cond x (b_of g 4096) (b_of g 0)
      go true = refl
      go false = refl

  pub rd-starts : (e a : ℕ) → max (a + C.tras) (e + w.n10) ≡ start_now C Rd e g a
  unfolding start_now
  rd-starts e a = ap (max (a + C.tras)) (rw n10-is (omega arith))

  pub wr-starts : (e a : ℕ) → e + w.start ≡ start_now C Wr e g a
  unfolding start_now
  wr-starts e a = rw start_is (omega arith)
