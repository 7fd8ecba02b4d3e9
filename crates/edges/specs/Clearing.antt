-- The edge before which no deadline passes.
-- Assumes nothing.
use Rattle.std.specs.Prelude.{ℕ, ◌+◌, ◌≤◌, ◌<◌, min, Bool, true, cond, ◌||◌, ◌⊎◌, ◌≡◌, ltb, get_or}
use Rattle.records.specs.declared.Command.{Command}
use Rattle.records.specs.declared.Command.TheVariants.{Ref, Pre, Srx, Pde}
use Rattle.records.specs.Command.{is_a}
use Rattle.edges.specs.declared.Banks.{Banks}
use Rattle.edges.specs.declared.Debt.{Debt}

-- of a bank: the edge and number of its ACT, the start and number of its precharge
abbrev pub due_by : (most a n x m : ℕ) → ℕ
due_by most a n x m = cond (ltb m n) (a + most + 1) (cond (ltb (a + most) x) (a + most + 1) 0)

-- not after lo and before x
abbrev pub Off : (lo x d : ℕ) → Type 0
Off lo x d = (d ≤ lo) ⊎ (x ≤ d)

-- bank b does not come due after lo and before x
abbrev pub BankClears : (most : ℕ) → Banks → (lo x b : ℕ) → Type 0
BankClears most B lo x b = Off lo x (due_by most (get_or B.actat b 0) (get_or B.actno b 0) (get_or B.shutat b 0) (get_or B.shutno b 0))

-- no bank does
abbrev pub Clears : (most : ℕ) → Banks → (lo x : ℕ) → Type 0
Clears most B lo x = (b : ℕ) → b < 8 → BankClears most B lo x b

-- nor is the debt due before it, or the last REF too far back
abbrev pub Owing : Debt → (x : ℕ) → Type 0
Owing D x = (D.sleeps ≡ true) ⊎ ((x ≤ D.due) × (x ≤ D.gap))

-- nor is a stay in power-down too long before it
abbrev pub Staying : (level sleeps : Bool) (at stay x : ℕ) → Type 0
Staying l z at stay x = (l ≡ true) ⊎ ((z ≡ true) ⊎ (x ≤ at + stay + 1))

-- x, or the edge at which 9 would be owed, or at which the last REF is too far back, if that is before
abbrev pub owing_by : Debt → (x : ℕ) → ℕ
owing_by D x = cond D.sleeps x (min (min x D.due) D.gap)

-- The edge after a seldom command that came at the edge e; D is the debt behind it, at the latest change of CKE. Behind a REF, or a PRE of all
-- banks, no bank is open; an SRX brings the debt's edges nearer; a power-down entry begins a stay
unfoldable pub clear_next : (most stay : ℕ) → Command → (e at : ℕ) → Debt → (clear : ℕ) → ℕ
clear_next m s c e at D x =
    cond (is_a Ref c || is_a Pre c) (owing_by D (e + m + 1)) (cond (is_a Srx c) (owing_by D x) (cond (is_a Pde c) (min x (at + s + 1)) x))

-- the banks below b have been seen, and x is not far
pub record ClearTo (most : ℕ) (B : Banks) (lo x b : ℕ) : Type 0 where
  pub seen : (i : ℕ) → i < b → BankClears most B lo x i
  pub near : x ≤ lo + most + 1
