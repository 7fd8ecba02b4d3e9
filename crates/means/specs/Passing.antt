-- Rules 24, 25, 28 and 31 at an edge: what it is to break them, whom they name and with which clocks (01, "24 the ACT; 25 the last REF or none"; 02,
-- Q-1, "partner the entry"; Q-2, "its partner the last REF or none").
-- Assumes nothing.
use Rattle.std.specs.Prelude.{ℕ, ◌+◌, ◌-◌, ◌≤◌, ◌<◌, ◌≡◌, true, false}
use Rattle.records.specs.declared.Command.TheVariants.{Ref, Pde}
use Rattle.chip.specs.declared.Chip.{Chip}
use Rattle.rules.specs.Past.{Past, edge, number, changes, is, latest, up_to}
use Rattle.rules.specs.Banks.{act_on, is_idle, status}
use Rattle.rules.specs.Deadlines.{owed_at, since_ref}
use Rattle.means.specs.Partners.{Latest}

-- a bank's time is over exactly where it is not idle and its latest ACT was just longer ago than it may be
abbrev pub Over : (C : Chip) (bank : ℕ) (p : Past) (u t : ℕ) → Type 0
Over C b p u t = (is_idle (status C b p u) ≡ false) × (edge (latest (act_on b) p) + C.most + 1 ≡ t)

module _ (C : Chip) (q : Past) (t : ℕ) where
  -- "A bank's precharge must start no later than ACT + greatest t_ras; broken one edge after", by the status one edge before t
  abbrev pub Late : (bank : ℕ) → Type 0
  Late b = Over C b (up_to (t - 1) q) (t - 1) t

  -- "24 the ACT", of the lowest bank; "needed its limit, found one more"
  pub record Late-pair (partner needed found : ℕ) : Type 0 where
    pub bank : ℕ
    pub below : bank < 8
    pub passed : Late bank
    pub lower : (b : ℕ) → b < bank → Late b → ⊥
    pub partner-is : partner ≡ number (latest (act_on bank) (up_to (t - 1) q))
    pub needed-is : needed ≡ C.most
    pub found-is : found ≡ C.most + 1

  -- the debt is 9 or more after the edge's command
  abbrev pub Owing : Type 0
  Owing = 17 ≤ owed_at C.trefi (up_to t q) t

  -- "25 the last REF or none"; "needed 8, found 9"
  pub record Debt-pair (partner needed found : ℕ) : Type 0 where
    pub owes : Owing
    pub partner-is : partner ≡ number (latest (is Ref) (up_to t q))
    pub needed-is : needed ≡ 8
    pub found-is : found ≡ 9

  -- the latest change of CKE up to the edge before t is a power-down entry, and was just longer ago than a stay may be
  abbrev pub Stayed : Type 0
  Stayed = (s : Past) × Latest changes (up_to (t - 1) q) s × (is Pde s ≡ true) × (edge s + C.nine + 1 ≡ t)

  -- "partner the entry"; shown as 24 is: needed its limit, found one more
  pub record Stay-pair (partner needed found : ℕ) : Type 0 where
    pub event : Past
    pub latest-of : Latest changes (up_to (t - 1) q) event
    pub entered : is Pde event ≡ true
    pub passed : edge event + C.nine + 1 ≡ t
    pub partner-is : partner ≡ number event
    pub needed-is : needed ≡ C.nine
    pub found-is : found ≡ C.nine + 1

  -- on the awake clock more than nine intervals have passed since the last REF up to the edge before t, or since edge 0
  abbrev pub Parted : Type 0
  Parted = C.nine < since_ref (up_to (t - 1) q) t

  -- "its partner the last REF or none, needed the limit, found one more"
  pub record Gap-pair (partner needed found : ℕ) : Type 0 where
    pub passed : Parted
    pub partner-is : partner ≡ number (latest (is Ref) (up_to (t - 1) q))
    pub needed-is : needed ≡ C.nine
    pub found-is : found ≡ C.nine + 1
