-- A record resets the DLL and closes banks as the judge has it.
-- Assumes nothing.
use Prim.Native.Nat.{ℕ}
use native.Mathlib.Omega.{arith}
use mathlib.Core.Path.{◌≡◌, refl, sym, ap}
use mathlib.Core.Bool.{Bool, true, false, ◌&&◌, ◌||◌}
use mathlib.Core.List.{◌∷◌}
use borrow.Author.Tests.{eqb-true, eq-eqb}
use Rattle.records.specs.declared.Record.{Record}
use Rattle.records.specs.declared.Command.{Command}
use Rattle.records.specs.declared.Command.TheVariants.{Pre, Wr, Rd}
use Rattle.records.specs.Command.{a10}
use Rattle.chip.specs.declared.Chip.{Chip}
use Rattle.running.specs.Next as running
use Rattle.rules.specs.Past.{Past, edge, command, is, bank_of, on, latest}
use Rattle.rules.specs.Registers.{dll_reset, regs}
use Rattle.rules.specs.Banks.{act_on, closes, start}
use Rattle.rules.proofs.Clean.{is-other, ClosedBy, by-pre, by-rd, by-wr, closing-by}

-- ── Registers ───────────────────────────────────────────────────────────────────────────────

-- a DLL reset is an MRS to MR0
pub resets-now : (r : Record) (p : Past) → running.resets_now (command (r ∷ p)) r ≡ dll_reset (r ∷ p)
resets-now r p = refl

-- ── Banks ───────────────────────────────────────────────────────────────────────────────────

-- an event closes its own bank just if it closes some bank
pub own-close : (x a y : Bool) → x && (a || true) || y && (a && true) ≡ (x || y && a)
own-close true true y = refl
own-close true false y = refl
own-close false true true = refl
own-close false true false = refl
own-close false false true = refl
own-close false false false = refl

pub no-and : (x : Bool) → x && false ≡ false
no-and true = refl
no-and false = refl

pub no-close : (x a y : Bool) → x && a ≡ false → x && (a || false) || y && (a && false) ≡ false
no-close true true y h = h
no-close true false true h = h
no-close true false false h = h
no-close false true true h = h
no-close false true false h = h
no-close false false true h = h
no-close false false false h = h

module _ (C : Chip) (r : Record) (p : Past) where
  abbrev e : ℕ
  e = edge (r ∷ p)

  abbrev c : Command
  c = command (r ∷ p)

  abbrev own : ℕ
  own = bank_of (r ∷ p)

  on-own : on (bank_of (r ∷ p)) (r ∷ p) ≡ true
  on-own = eq-eqb (bank_of (r ∷ p)) (bank_of (r ∷ p)) refl

  pub closes-own : closes own (r ∷ p) ≡ running.shuts_now c r
  closes-own = rw on-own (own-close (is Pre (r ∷ p)) (a10 r) (is Rd (r ∷ p) || is Wr (r ∷ p)))

  -- the start, worked out from the ACT of the bank that closes
  pub start-now : (b : ℕ) → closes b (r ∷ p) ≡ true → running.start_now C c e (regs (r ∷ p)) (edge (latest (act_on b) p)) ≡ start C (r ∷ p)
  unfolding start running.start_now
  start-now b y = go (closing-by b (r ∷ p) y)
    where
      go : ClosedBy b (r ∷ p) → running.start_now C c e (regs (r ∷ p)) (edge (latest (act_on b) p)) ≡ start C (r ∷ p)
      go (by-pre a o) = rw a
      go (by-rd a o) = ap (λ x. running.start_now C c e (regs (r ∷ p)) (edge (latest (act_on x) p))) (sym (eqb-true (bank_of (r ∷ p)) b o))
      go (by-wr a o) = rw (is-other Wr Pre (r ∷ p) (λ z. omega arith) a, is-other Wr Rd (r ∷ p) (λ z. omega arith) a)
