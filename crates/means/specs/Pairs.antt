-- Whom a record that breaks a rule names, and with which clocks: 01, "Partner", rule by rule.
-- Assumes nothing.
use Rattle.std.specs.Prelude.{ℕ, ◌-◌, ◌<◌, ◌≡◌, Bool, true, false, cond, ◌&&◌, ◌||◌, ◌∷◌}
use Rattle.records.specs.declared.Record.{Record}
use Rattle.records.specs.declared.Command.TheVariants.{Mrs, Ref, Act, Rd, Zq, Sre, Srx, Bad}
use Rattle.records.specs.Command.{a10}
use Rattle.registers.specs.Allowed.{bad_bit, allowed}
use Rattle.chip.specs.declared.Chip.{Chip}
use Rattle.rules.specs.Past.{Past, edge, number, command, is, bank_of, on, latest, has, Greatest}
use Rattle.rules.specs.Registers.{dll_reset, mr}
use Rattle.rules.specs.Banks.{act_on, closes, shuts, is_idle, start, status}
use Rattle.rules.specs.Rules.{may, concerns, Row, spacing}
use Rattle.means.specs.Partners.{Latest, Fourth, Row-pair}

-- "Rules 1, 2, 3, 23: needed and found 0"; Q-5 amends it for rule 3 on an MRS
abbrev pub None : (needed found : ℕ) → Type 0
None m f = (m ≡ 0) × (f ≡ 0)

module _ (C : Chip) (r : Record) (p : Past) where
  -- the command speaks of bank b
  abbrev pub speaks_of : (bank : ℕ) → Bool
  speaks_of b = concerns (command (r ∷ p)) (a10 r) (on b (r ∷ p))

  -- and may find it as it is
  abbrev pub may_find : (bank : ℕ) → Bool
  may_find b = may (command (r ∷ p)) (status C b p (edge (r ∷ p)))

  -- "rule 2 the ACT of the lowest bank in the way, none for RD or WR on an idle bank"
  pub record Way-pair (partner needed found : ℕ) : Type 0 where
    pub bank : ℕ
    pub below : bank < 8
    pub speaks : speaks_of bank ≡ true
    pub in-the-way : may_find bank ≡ false
    pub lower : (b : ℕ) → b < bank → speaks_of b ≡ true → may_find b ≡ true
    pub partner-is : partner ≡ cond (is_idle (status C bank p (edge (r ∷ p)))) 0 (number (latest (act_on bank) p))
    pub clocks : None needed found

  -- what rule 3 asks of an MRS, an ACT and a RD is not so; Q-5: an MRS finds the bit of the field that is not allowed
  pub data Lacks : (found : ℕ) → Type 0 where
    code : is Mrs (r ∷ p) ≡ true → allowed C.header (bank_of (r ∷ p)) r.a ≡ false → Lacks (bad_bit C.header (bank_of (r ∷ p)) r.a)
    registers : is Act (r ∷ p) ≡ true → (mr 0 p).written && ((mr 1 p).written && ((mr 2 p).written && (mr 3 p).written)) ≡ false → Lacks 0
    reset : is Rd (r ∷ p) ≡ true → has dll_reset p ≡ false → Lacks 0

  -- the events that rule 5 looks at: those that close an ACT's bank, or any bank for REF, MRS, ZQ, SRE
  pub data Closing-kind : (Past → Bool) → Type 0 where
    own : is Act (r ∷ p) ≡ true → Closing-kind (closes (bank_of (r ∷ p)))
    any : is Ref (r ∷ p) || (is Mrs (r ∷ p) || (is Zq (r ∷ p) || is Sre (r ∷ p))) ≡ true → Closing-kind shuts

  -- "rule 5 the PRE, RD or WR of the latest start (equal starts: later record), found counted from the start"
  pub record Start-pair (partner needed found : ℕ) : Type 0 where
    pub kind : Past → Bool
    pub looks : Closing-kind kind
    pub event : Past
    pub latest-start : Greatest kind (start C) p event
    pub partner-is : partner ≡ number event
    pub needed-is : needed ≡ C.trp
    pub found-is : found ≡ edge (r ∷ p) - start C event
    pub too_few : found < needed

  -- "8 fourth ACT back to ACT"
  pub record Fourth-pair (partner needed found : ℕ) : Type 0 where
    pub later : is Act (r ∷ p) ≡ true
    pub event : Past
    pub fourth-back : Fourth p event
    pub partner-is : partner ≡ number event
    pub needed-is : needed ≡ C.tfaw
    pub found-is : found ≡ edge (r ∷ p) - edge event
    pub too_few : found < needed

  -- "23 the SRX": no REF came after it
  pub record Woken-pair (partner needed found : ℕ) : Type 0 where
    pub later : is Sre (r ∷ p) ≡ true
    pub event : Past
    pub woke : is Srx event ≡ true
    pub latest-of : Latest (λ s. is Srx s || is Ref s) p event
    pub partner-is : partner ≡ number event
    pub clocks : None needed found

  -- what the record r after the past p broke, with whom
  pub data Pair (partner needed found : ℕ) : (rule : ℕ) → Type 0 where
    other-change : is Bad (r ∷ p) ≡ true → partner ≡ 0 → None needed found → Pair partner needed found 1
    in-the-way : Way-pair partner needed found → Pair partner needed found 2
    lacking : Lacks found → partner ≡ 0 → needed ≡ 0 → Pair partner needed found 3
    too-soon : (x : Row) → Row-pair (spacing C x) r p partner needed found → Pair partner needed found (spacing C x).name
    precharging : Start-pair partner needed found → Pair partner needed found 5
    five-acts : Fourth-pair partner needed found → Pair partner needed found 8
    no-refresh : Woken-pair partner needed found → Pair partner needed found 23
