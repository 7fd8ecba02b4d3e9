-- The awake clock and the refresh debt edge by edge: 01, rule 25, in its own words. The definitions of `rules` are quotients over the
-- gaps between records.
-- Assumes nothing.
use Rattle.std.specs.Prelude.{ℕ, ◌+◌, ◌-◌, ◌%◌, ◌≡◌, Bool, true, cond, not, ◌&&◌, eqb}
use Rattle.records.specs.declared.Command.TheVariants.{Ref, Sre}
use Rattle.rules.specs.Past.{Past, edge, changes, asleep, is, latest, has, up_to}
use Rattle.rules.specs.Deadlines.{awake_at, owed_at, since_ref}
use Rattle.means.specs.Partners.{Latest}

-- the awake clock at edge t of the recording q
abbrev pub awake : Past → (t : ℕ) → ℕ
awake q t = awake_at (up_to t q) t

-- the debt, plus 8, after the command of edge t; T is tREFI's clocks
abbrev pub owed : (T : ℕ) → Past → (t : ℕ) → ℕ
owed T q t = owed_at T (up_to t q) t

-- the latest change of CKE in p is an SRE
abbrev pub Asleep : Past → Type 0
Asleep p = (s : Past) × Latest changes p s × (is Sre s ≡ true)

-- the edge behind t stands "after SRE up to and including SRX": up to t the latest change of CKE was an SRE
abbrev pub sleeps : Past → (t : ℕ) → Bool
sleeps q t = asleep (up_to t q)

-- the edge behind t is a "positive multiple of tREFI's clocks on the awake clock"
abbrev pub ticks : (T : ℕ) → Past → (t : ℕ) → Bool
ticks T q t = not (sleeps q t) && eqb (awake q (t + 1) % T) 0

-- a REF stands at edge t
abbrev pub refreshes : Past → (t : ℕ) → Bool
refreshes q t = has (λ s. is Ref s && eqb (edge s) t) q

pub record By-edge (T : ℕ) (q : Past) : Type 0 where
  -- "The awake clock counts edges from 1, but not those after SRE up to and including SRX"
  pub clock-starts : awake q 0 ≡ 0
  pub clock : (t : ℕ) → awake q (t + 1) ≡ awake q t + cond (sleeps q t) 0 1
  -- "Refresh debt starts at 0, rises by 1 at each positive multiple of tREFI's clocks on the awake clock, then falls by 1 at a REF,
  -- never below -8"
  pub debt-starts : owed T q 0 ≡ 8
  pub debt : (t : ℕ) → owed T q (t + 1) ≡ owed T q t + cond (ticks T q t) 1 0 - cond (refreshes q (t + 1)) 1 0
  -- Q-2: "counted here on the awake clock from edge 0 or the last REF": at the edge behind t, of the last REF up to t
  pub since : (t : ℕ) → since_ref (up_to t q) (t + 1) ≡ awake q (t + 1) - awake q (edge (latest (is Ref) (up_to t q)))
