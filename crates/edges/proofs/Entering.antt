-- A power-down entry of which no record has anything to ask breaks nothing of rule 26.
-- Assumes nothing.
use Prim.Native.Nat.{ℕ, zero, suc, ◌-◌, ◌≤◌, ◌<◌}
use native.Mathlib.Omega.{arith}
use mathlib.Core.Path.{◌≡◌, refl, ap, ◌∙◌}
use lib.ListN.{get_or}
use borrow.Author.Tests.{le-ltb}
use Rattle.laws.proofs.Eight.{get_or-table}
use Rattle.answers.specs.declared.Break.{Break}
use Rattle.answers.specs.declared.Break.TheVariants.{Fine}
use Rattle.records.specs.declared.Command.TheVariants.{Pde}
use Rattle.chip.specs.declared.Chip.{Chip}
use Rattle.running.specs.declared.Mark.{Mark}
use Rattle.running.specs.declared.Kept.{Kept}
use Rattle.running.specs.Marks.{empty, needing, spaced}
use Rattle.running.specs.Down.{later_of, latest_of, entry_read, entry_write, check26, rule26}
use Rattle.edges.specs.declared.Banks.{Banks}
use Rattle.edges.specs.declared.Acts.{Acts}
use Rattle.edges.specs.declared.Device.{Device}
use Rattle.edges.specs.Views.{kept_of, kepts_of, latest_from, read_of, regs_of, shared_of, device_mark, MRS}
use Rattle.edges.specs.Seldom.{Entered}
use Rattle.edges.proofs.Latest.{latest-from}

latest-none : (f : ℕ → Break) (n : ℕ) → ((b : ℕ) → b < n → f b ≡ Fine) → latest_of f n ≡ Fine
unfolding latest_of later_of
latest-none f zero h = refl
latest-none f (suc n) h = rw (latest-none f n (λ b l. h b (omega arith)), h n (omega arith))

check-fine : (e : ℕ) (m : Mark) → m.need ≤ e - m.at → check26 e m ≡ Fine
unfolding spaced
check-fine e m l = rw (le-ltb (e - m.at) m.need l)

module _ (C : Chip) (B : Banks) (A : Acts) (D : Device) (e : ℕ)
    (h : Entered C.tmod e B D) where
  wrote-fine : (b : ℕ) → b < 8 → check26 e (entry_write (regs_of D) (device_mark D MRS) (get_or (kepts_of C B) b empty)) ≡ Fine
  unfolding kept_of needing
  wrote-fine b l =
      ap (λ (k : Kept). check26 e (entry_write (regs_of D) (device_mark D MRS) k)) (get_or-table (kept_of C B) b empty l)
      ∙ check-fine e (entry_write (regs_of D) (device_mark D MRS) (kept_of C B b)) (h.over b l).wrote

  read-fine : check26 e (entry_read (regs_of D) (device_mark D MRS) (read_of B)) ≡ Fine
  unfolding read_of
  read-fine =
      check-fine e (entry_read (regs_of D) (device_mark D MRS) (read_of B))
      (h.over (latest_from B.colno 0 7) (omega (arith, (latest-from B.colno 0 7).within))).read

  set-fine : check26 e (needing C.tmod (device_mark D MRS)) ≡ Fine
  unfolding needing
  set-fine = check-fine e (needing C.tmod (device_mark D MRS)) h.set

  pub entered-fine : rule26 C Pde (kepts_of C B) (shared_of C B A D) e ≡ Fine
  unfolding rule26 shared_of later_of
  entered-fine = rw (latest-none _ 8 wrote-fine, read-fine, set-fine)
