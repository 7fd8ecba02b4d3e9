-- Rule 2: which banks a command speaks of, and what it wants of them, in the judge's words and in the rules'.
-- Assumes nothing.
use Prim.Native.Nat.{ℕ, zero, suc, ◌<◌}
use native.Mathlib.Omega.{arith}
use native.Mathlib.Decide.{ℕ_discrete}
use mathlib.Core.Path.{◌≡◌, refl, sym}
use mathlib.Core.Bool.{Bool, true, false, ◌&&◌, ◌||◌}
use Rattle.answers.specs.declared.Bank.{Bank}
use Rattle.answers.specs.declared.Bank.TheVariants.{Idle, Open, Closing}
use Rattle.answers.specs.declared.Break.{Break}
use Rattle.answers.specs.declared.Break.TheVariants.{Fine}
use Rattle.records.specs.declared.Command.{Command}
use Rattle.records.specs.declared.Command.TheVariants.{Mrs, Ref, Pre, Act, Wr, Rd, Zq, Nop, Des, Sre, Srx, Low, Bad, Pde, Pdx}
use Rattle.records.specs.Command.{is_a}
use Rattle.running.specs.Breaks as running
use Rattle.answers.specs.Answer.{or_else, lowest}
use Rattle.rules.specs.Rules.{concerns, barred}
use Rattle.rules.proofs.Events.{never}
use Rattle.rules.proofs.Words.{or-fine}

-- what a command wants of a bank is what it may find
pub may-is : (c : Command) (k : Bank) → barred c true k ≡ running.barred_by (running.wants c) k
may-is Mrs Idle = refl
may-is Mrs (Open a n w) = refl
may-is Mrs (Closing a n w) = refl
may-is Ref Idle = refl
may-is Ref (Open a n w) = refl
may-is Ref (Closing a n w) = refl
may-is Pre Idle = refl
may-is Pre (Open a n w) = refl
may-is Pre (Closing a n w) = refl
may-is Act Idle = refl
may-is Act (Open a n w) = refl
may-is Act (Closing a n w) = refl
may-is Wr Idle = refl
may-is Wr (Open a n w) = refl
may-is Wr (Closing a n w) = refl
may-is Rd Idle = refl
may-is Rd (Open a n w) = refl
may-is Rd (Closing a n w) = refl
may-is Zq Idle = refl
may-is Zq (Open a n w) = refl
may-is Zq (Closing a n w) = refl
may-is Nop Idle = refl
may-is Nop (Open a n w) = refl
may-is Nop (Closing a n w) = refl
may-is Des Idle = refl
may-is Des (Open a n w) = refl
may-is Des (Closing a n w) = refl
may-is Sre Idle = refl
may-is Sre (Open a n w) = refl
may-is Sre (Closing a n w) = refl
may-is Srx Idle = refl
may-is Srx (Open a n w) = refl
may-is Srx (Closing a n w) = refl
may-is Low Idle = refl
may-is Low (Open a n w) = refl
may-is Low (Closing a n w) = refl
may-is Bad Idle = refl
may-is Bad (Open a n w) = refl
may-is Bad (Closing a n w) = refl
may-is Pde Idle = refl
may-is Pde (Open a n w) = refl
may-is Pde (Closing a n w) = refl
may-is Pdx Idle = refl
may-is Pdx (Open a n w) = refl
may-is Pdx (Closing a n w) = refl

-- the command speaks of all banks, as the judge asks it
abbrev pub speaks : Command → Bool → Bool
speaks c a = is_a Pre c && a || (is_a Ref c || (is_a Mrs c || (is_a Zq c || is_a Sre c)))

pub all-concern : (c : Command) (a o : Bool) → speaks c a ≡ true → concerns c a o ≡ true
all-concern Mrs a o h = refl
all-concern Ref a o h = refl
all-concern Pre true o h = refl
all-concern Pre false o h = never h refl
all-concern Act a o h = never h refl
all-concern Wr a o h = never h refl
all-concern Rd a o h = never h refl
all-concern Zq a o h = refl
all-concern Nop a o h = never h refl
all-concern Des a o h = never h refl
all-concern Sre a o h = refl
all-concern Srx a o h = never h refl
all-concern Low a o h = never h refl
all-concern Bad a o h = never h refl
all-concern Pde a o h = never h refl
all-concern Pdx a o h = never h refl

pub off-concern : (c : Command) (a : Bool) → speaks c a ≡ false → concerns c a false ≡ false
off-concern Mrs a h = never refl h
off-concern Ref a h = never refl h
off-concern Pre true h = never refl h
off-concern Pre false h = refl
off-concern Act a h = refl
off-concern Wr a h = refl
off-concern Rd a h = refl
off-concern Zq a h = never refl h
off-concern Nop a h = refl
off-concern Des a h = refl
off-concern Sre a h = never refl h
off-concern Srx a h = refl
off-concern Low a h = refl
off-concern Bad a h = refl
off-concern Pde a h = refl
off-concern Pdx a h = refl

pub own-concern : (c : Command) (a : Bool) (k : Bank) → speaks c a ≡ false → barred c (concerns c a true) k ≡ running.barred_by (running.wants c) k
own-concern Mrs a k h = never refl h
own-concern Ref a k h = never refl h
own-concern Pre true k h = never refl h
own-concern Pre false k h = may-is Pre k
own-concern Act a k h = may-is Act k
own-concern Wr a k h = may-is Wr k
own-concern Rd a k h = may-is Rd k
own-concern Zq a k h = never refl h
own-concern Nop a k h = may-is Nop k
own-concern Des a k h = may-is Des k
own-concern Sre a k h = never refl h
own-concern Srx a k h = may-is Srx k
own-concern Low a k h = may-is Low k
own-concern Bad a k h = may-is Bad k
own-concern Pde a k h = may-is Pde k
own-concern Pdx a k h = may-is Pdx k

-- where only bank b has something to say
pub lowest-single : (f : ℕ → Break) (n b : ℕ) → b < n → ((c : ℕ) → c < n → (c ≡ b → ⊥) → f c ≡ Fine) → lowest f n ≡ f b
unfolding lowest or_else
lowest-single f zero b l h = absurd (omega arith)
lowest-single f (suc n) b l h = elim (ℕ_discrete b n) [
  | yes q ↦ rw (none_below n (λ c m. h c (omega arith) (λ z. omega arith)), q)
  | no q ↦ rw (lowest-single f n b (omega arith) (λ c m z. h c (omega arith) z), h n (omega arith) (λ z. q (sym z))) (or-fine (f b))
]
  where
    none_below : (m : ℕ) → ((c : ℕ) → c < m → f c ≡ Fine) → lowest f m ≡ Fine
    none_below zero g = refl
    none_below (suc m) g = rw (none_below m (λ c l. g c (omega arith)), g m (omega arith))
