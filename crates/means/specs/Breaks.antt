-- What it is to break a rule: at a record, and at an edge by any.
-- Assumes nothing.
use Rattle.std.specs.Prelude.{ℕ, ◌-◌, ◌<◌, ◌≡◌, Bool, true, false, ◌||◌, ◌∷◌}
use Rattle.records.specs.declared.Record.{Record}
use Rattle.records.specs.declared.Command.TheVariants.{Ref, Act, Sre, Srx, Bad}
use Rattle.chip.specs.declared.Chip.{Chip}
use Rattle.rules.specs.Past.{Past, edge, is, ◌∈◌}
use Rattle.rules.specs.Banks.{start}
use Rattle.rules.specs.Rules.{Row, spacing}
use Rattle.means.specs.Partners.{Latest, Fourth}
use Rattle.means.specs.Pairs.{speaks_of, may_find, Lacks, Closing-kind}
use Rattle.means.specs.Passing.{Late, Owing, Stayed, Parted}

module _ (C : Chip) (r : Record) (p : Past) where
  -- the record r after the past p breaks the rule
  pub data Breaks : (rule : ℕ) → Type 0 where
    breaks1 : is Bad (r ∷ p) ≡ true → Breaks 1
    breaks2 : (bank : ℕ) → bank < 8 → speaks_of C r p bank ≡ true → may_find C r p bank ≡ false → Breaks 2
    breaks3 : {found : ℕ} → Lacks C r p found → Breaks 3
    -- 4, 6, 7, 9 to 22, 26, 27, 29 and 30: fewer clocks since some event than it needs
    breaks_row :
        (x : Row) → (spacing C x).to (r ∷ p) ≡ true → (s : Past) → s ∈ p → (spacing C x).from (r ∷ p) s ≡ true
        → edge (r ∷ p) - edge s < (spacing C x).need s → Breaks (spacing C x).name
    -- fewer than t_rp since some start
    breaks5 : (kind : Past → Bool) → Closing-kind C r p kind → (s : Past) → s ∈ p → kind s ≡ true → edge (r ∷ p) - start C s < C.trp → Breaks 5
    breaks8 : is Act (r ∷ p) ≡ true → (s : Past) → Fourth p s → edge (r ∷ p) - edge s < C.tfaw → Breaks 8
    -- an SRX after which no REF came
    breaks23 : is Sre (r ∷ p) ≡ true → (s : Past) → Latest (λ t. is Srx t || is Ref t) p s → is Srx s ≡ true → Breaks 23

module _ (C : Chip) (q : Past) where
  -- rule k is broken at edge t of the recording q
  pub data BreaksAt (t : ℕ) : (rule : ℕ) → Type 0 where
    by-record : {r : Record} {p : Past} {k : ℕ} → r ∷ p ∈ q → edge (r ∷ p) ≡ t → Breaks C r p k → BreaksAt t k
    by-limit : (bank : ℕ) → bank < 8 → Late C q t bank → BreaksAt t 24
    by-debt : Owing C q t → BreaksAt t 25
    by-stay : Stayed C q t → BreaksAt t 28
    by-gap : Parted C q t → BreaksAt t 31
