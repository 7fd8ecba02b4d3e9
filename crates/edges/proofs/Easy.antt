-- Where no deadline passes, a record that breaks nothing says nothing.
-- Assumes nothing.
use Prim.Native.Nat.{ℕ, ◌+◌, ◌≤◌, ◌<◌}
use native.Mathlib.Omega.{arith}
use mathlib.Core.Bool.{Bool, true, false, cond, ◌||◌}
use mathlib.Core.Logic.{◌⊎◌, inl, inr, ⊎_elim}
use mathlib.Core.Path.{◌≡◌, ap}
use lib.ListN.{get_or}
use lib.Dec.{leb}
use borrow.Author.Tests.{le-ltb, lt-leb, ne_eqb}
use Rattle.answers.specs.declared.Break.{Break}
use Rattle.answers.specs.declared.Break.TheVariants.{Fine}
use Rattle.records.specs.declared.Record.{Record}
use Rattle.records.specs.declared.Command.{Command}
use Rattle.chip.specs.declared.Chip.{Chip}
use Rattle.running.specs.declared.Late.{Late}
use Rattle.running.specs.declared.Pick.{Pick}
use Rattle.running.specs.Late.{sooner}
use Rattle.running.specs.Said.{no_verdict}
use Rattle.running.proofs.Soonest.{soonest-none}
use Rattle.edges.specs.declared.Banks.{Banks}
use Rattle.edges.specs.declared.Debt.{Debt}
use Rattle.edges.specs.declared.Device.{Device}
use Rattle.edges.specs.declared.Rank.{Rank}
use Rattle.edges.specs.Views.{CKE}
use Rattle.edges.specs.Clearing.{Staying}
use Rattle.edges.specs.Says.{dues_of, next24, next25, next28, next31, broken_in, changed_in, left_in, owing, says_by, says_of, command_in, refreshed}

-- no bank comes due after the edge lo and up to e
abbrev pub NoneDue : Chip → Banks → (lo e : ℕ) → Type 0
NoneDue C B lo e = (b : ℕ) → b < 8 → (get_or (dues_of C B) b 0 ≤ lo) ⊎ (e < get_or (dues_of C B) b 0)

-- 9 is not owed by e, and the last REF not too far back
abbrev pub NotOwed : Debt → (e : ℕ) → Type 0
NotOwed D e = (D.sleeps ≡ true) ⊎ ((e < D.due) × (e < D.gap))

not-24 : (C : Chip) (B : Banks) (lo e : ℕ) → NoneDue C B lo e → (next24 C B lo (e + 1)).at ≡ e + 1
unfolding next24
not-24 C B lo e h =
    ap (λ (k : Pick). k.at) (soonest-none (dues_of C B) lo (e + 1) 8 (λ b l. ⊎_elim (λ x. inl x) (λ x. inr (omega (arith, x))) (h b l)))

-- of the debt's two edges the first is that of rule 25, the second that of 31
not-due : (D : Debt) (e x : ℕ) → (D.sleeps ≡ true) ⊎ (e < x) → e < cond D.sleeps (e + 1) x
not-due D e x (inl y) = rw y (omega arith)
not-due D e x (inr y) = go D.sleeps
  where
    go : (z : Bool) → e < cond z (e + 1) x
    go true = omega arith
    go false = y

not-25 : (D : Debt) (n e : ℕ) → NotOwed D e → e < (next25 D n (e + 1)).at
not-25 D n e h = not-due D e D.due (⊎_elim inl (λ x. inr x.0) h)

not-31 : (C : Chip) (D : Debt) (n e : ℕ) → NotOwed D e → e < (next31 C D n (e + 1)).at
not-31 C D n e h = not-due D e D.gap (⊎_elim inl (λ x. inr x.1) h)

not-28 : (C : Chip) (l z : Bool) (D : Device) (e : ℕ) → Staying l z (get_or D.at CKE 0) C.nine (e + 1) → e < (next28 C l z D (e + 1)).at
not-28 C l z D e (inl x) = rw x (omega arith)
not-28 C l z D e (inr (inl x)) = rw x (go l)
  where
    go : (y : Bool) → e < cond (y || true) (e + 1) (get_or D.at CKE 0 + C.nine + 1)
    go true = omega arith
    go false = omega arith
not-28 C l z D e (inr (inr x)) = go (l || z)
  where
    go : (y : Bool) → e < cond y (e + 1) (get_or D.at CKE 0 + C.nine + 1)
    go true = omega arith
    go false = omega arith

sooner-after : (e : ℕ) (x y : Late) → e < x.at → e < y.at → e < (sooner x y).at
unfolding sooner
sooner-after e x y l m = go (leb x.at y.at)
  where
    go : (b : Bool) → e < (cond b x y).at
    go true = l
    go false = m

none_said :
    (e n : ℕ) (x y z w : Late) (o : Break) → x.at ≡ e + 1 → e < y.at → e < z.at → e < w.at → o ≡ Fine → says_by e n x y z w Fine o Fine Fine ≡ no_verdict
unfolding says_by
none_said e n x y z w o p q k m h =
    let l = sooner-after e x (sooner y (sooner z w)) (omega arith) (sooner-after e y (sooner z w) q (sooner-after e z w k m)) in
    rw (
      le-ltb (sooner x (sooner y (sooner z w))).at e (omega arith),
      ne_eqb x.at e (λ u. omega arith),
      ne_eqb z.at e (λ u. omega arith),
      ne_eqb w.at e (λ u. omega arith),
      h,
    )

not-owing : (c : Command) (e : ℕ) (x : Late) → e < x.at → owing c e x ≡ Fine
not-owing c e x l = rw (lt-leb x.at e l)

-- a record that breaks none of the rules that a record breaks
pub record AllFine (C : Chip) (s : Rank) (r : Record) (e : ℕ) : Type 0 where
  pub broken : broken_in C s r e ≡ Fine
  pub changed : changed_in C s r e ≡ Fine
  pub left : left_in C s r e ≡ Fine

-- a stay in power-down is not too long at e
abbrev pub NotLong : Chip → Rank → (e : ℕ) → Type 0
NotLong C s e = Staying s.level s.debt.sleeps (get_or s.device.at CKE 0) C.nine (e + 1)

pub says_none :
    (C : Chip) (s : Rank) (r : Record) → NoneDue C s.banks s.edge (s.edge + r.step) → NotOwed s.debt (s.edge + r.step)
    → NotLong C s (s.edge + r.step) → AllFine C s r (s.edge + r.step) → says_of C s r ≡ no_verdict
unfolding says_of
says_none C s r u v k w =
    let e = s.edge + r.step in
    let q = not-25 s.debt (refreshed s) e v in
    rw (w.broken, w.changed, w.left) (none_said e (s.count + 1) (next24 C s.banks s.edge (e + 1)) (next25 s.debt (refreshed s) (e + 1))
    (next28 C s.level s.debt.sleeps s.device (e + 1)) (next31 C s.debt (refreshed s) (e + 1)) (owing (command_in s r) e (next25 s.debt (refreshed s) (e + 1)))
    (not-24 C s.banks s.edge e u) q (not-28 C s.level s.debt.sleeps s.device e k) (not-31 C s.debt (refreshed s) e v)
    (not-owing (command_in s r) e (next25 s.debt (refreshed s) (e + 1)) q))
