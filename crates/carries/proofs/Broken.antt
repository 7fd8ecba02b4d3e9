-- What a record breaks of the rules, by the summary's waiting times and marks, is what the rules say, looking back.
-- Assumes nothing.
use Prim.Native.Nat.{ℕ, zero, suc, ◌+◌, ◌≤◌, max}
use native.Mathlib.Omega.{arith}
use mathlib.Core.Path.{◌≡◌, refl, sym, ap, ◌∙◌}
use mathlib.Core.Logic.{⊎_elim}
use mathlib.Core.Bool.{true, false, cond, ◌&&◌}
use mathlib.Core.List.{List, [], ◌∷◌, ◌++◌}
use lib.Dec.{leb}
use borrow.Author.Tests.{leb-true}
use Rattle.laws.specs.Eight.{table}
use Rattle.laws.proofs.Eight.{get_or-table, get_or-first, get_or-second}
use Rattle.answers.specs.declared.Break.{Break}
use Rattle.answers.specs.declared.Break.TheVariants.{Fine, Broken}
use Rattle.answers.specs.Answer.{or_else}
use Rattle.records.specs.declared.Record.{Record}
use Rattle.records.specs.declared.Command.{Command}
use Rattle.records.specs.declared.Command.TheVariants.{Mrs, Ref, Pre, Act, Wr, Rd, Zq, Nop, Des, Sre, Srx, Low, Bad, Pde, Pdx}
use Rattle.records.specs.Command.{is_a, a10, bank_in}
use Rattle.chip.specs.declared.Chip.{Chip}
use Rattle.running.specs.Breaks.{rule1, rule2, rule3}
use Rattle.edges.specs.Asks.{greatest, wait_for}
use Rattle.edges.specs.Says.{last_rules, spaced_in, broken_in, changed_in, left_in}
use Rattle.rules.specs.Past.{Past, edge, changes, command, is, latest}
use Rattle.rules.specs.Rules.{spacing, spaced, r22, rule23, checks, change_checks, exit_checks, break_at}
use Rattle.rules.specs.Waiting.{asks, of_banks, wait, wait_at, spacing_rules}
use Rattle.rules.proofs.Generic.{decide, constant-dominated}
use Rattle.rules.proofs.Events.{or_else-fine}
use Rattle.rules.proofs.Clean.{Clean}
use Rattle.rules.proofs.Facts.{Sound}
use Rattle.rules.proofs.Summary.{mark, rests, shared}
use Rattle.rules.proofs.Words.{or-fine, spacing_checks}
use Rattle.rules.proofs.Agree.{row-also, marks23, spacings-agree, agrees2, agrees3}
use Rattle.rules.proofs.Changing.{agrees26, agrees27, exits-agree}
use Rattle.rules.proofs.Allowing.{waits-allow}
use Rattle.carries.proofs.Summary.{debt_of, waits_of, summary}
use Rattle.carries.proofs.Views.{kepts-view, written-view}
use Rattle.carries.proofs.Marks.{spacings-view, last_view, entry-view, held-view, exit_view}

-- ── The waiting time ────────────────────────────────────────────────────────────────────────

greatest-of : (f : ℕ → ℕ) (n : ℕ) → n ≤ 8 → greatest (table f) n ≡ of_banks f n
unfolding greatest of_banks
greatest-of f zero l = refl
greatest-of f (suc n) l = λ i. max (greatest-of f n (omega arith) i) (get_or-table f n 0 l i)

-- what a record of the command c has to wait for
pub wait-for : (C : Chip) (p : Past) (c : Command) (r : Record)
    → wait_for (waits_of C p) c r ≡ cond (is_a Pre c && a10 r) (of_banks (λ b. wait C Pre b p) 8) (wait C c (bank_in r) p)
unfolding waits_of wait asks
wait-for C p Act r = get_or-table (λ b. wait C Act b p) (bank_in r) 0 (omega arith)
wait-for C p Rd r = get_or-first (λ b. wait C Rd b p) (λ b. wait C Wr b p) (bank_in r) 0 (omega arith)
wait-for C p Wr r = get_or-second (λ b. wait C Rd b p) (λ b. wait C Wr b p) (bank_in r) 0 (omega arith)
wait-for C p Pre r = λ i. cond (a10 r) (greatest-of (λ b. wait C Pre b p) 8 (omega arith) i) (get_or-table (λ b. wait C Pre b p) (bank_in r) 0 (omega arith) i)
wait-for C p Ref r = refl
wait-for C p Mrs r = refl
wait-for C p Zq r = refl
wait-for C p Sre r = refl
wait-for C p Nop r = refl
wait-for C p Des r = refl
wait-for C p Srx r = refl
wait-for C p Low r = refl
wait-for C p Bad r = refl
wait-for C p Pde r = refl
wait-for C p Pdx r = refl

pub wait-at : (C : Chip) (r : Record) (p : Past) → wait_for (waits_of C p) (command (r ∷ p)) r ≡ wait_at C r p
unfolding wait_at
wait-at C r p = wait-for C p (command (r ∷ p)) r

-- ── Rules 4 to 23 ───────────────────────────────────────────────────────────────────────────

-- the checks of two lists, one after the other
break-append : (fs gs : List (Record → Past → Break)) (r : Record) (p : Past) → break_at (fs ++ gs) r p ≡ or_else (break_at fs r p) (break_at gs r p)
unfolding or_else
break-append [] gs r p = refl
break-append (f ∷ fs) gs r p = ap (or_else (f r p)) (break-append fs gs r p) ∙ or-or (f r p) (break_at fs r p) (break_at gs r p)
  where
    or-or : (x y z : Break) → or_else x (or_else y z) ≡ or_else (or_else x y) z
    or-or Fine y z = refl
    or-or (Broken k n m f) y z = refl

module _ (C : Chip) (S : Sound C) (r : Record) (p : Past) (h : Clean C p) where
  abbrev e : ℕ
  e = edge (r ∷ p)

  abbrev c : Command
  c = command (r ∷ p)

  last-agree : last_rules c e (shared C p) ≡ break_at (spaced C r22 ∷ rule23 C ∷ []) r p
  unfolding shared rests
  last-agree =
      row-also C S r p h (spacing C r22) (mark (λ _. C.tcke + 1) (latest (is Sre) p)) (constant-dominated _ (C.tcke + 1) p) refl
      (marks23 C S r p h ∙ sym (or-fine (rule23 C r p)))

  -- where the waiting time is over none of rules 4 to 21, 29 and 30 is broken
  all-over : leb (wait_for (waits_of C p) c r) e ≡ true → (break_at (spacing_rules C) r p ≡ Fine) × (break_at (exit_checks C) r p ≡ Fine)
  all-over y =
      let l : wait_for (waits_of C p) (command (r ∷ p)) r ≤ edge (r ∷ p) = leb-true _ _ y in
      let w = wait-at C r p in
      or_else-fine _ _ (sym (break-append (spacing_rules C) (exit_checks C) r p) ∙ (waits-allow C S r p).1 (omega arith))

  over : leb (wait_for (waits_of C p) c r) e ≡ true → break_at (spacing_checks C) r p ≡ break_at (spaced C r22 ∷ rule23 C ∷ []) r p
  unfolding or_else
  over y =
      break-append (spacing_rules C) (spaced C r22 ∷ rule23 C ∷ []) r p
      ∙ ap (λ x. or_else x (break_at (spaced C r22 ∷ rule23 C ∷ []) r p)) (all-over y).0

  spaced-in : spaced_in C (summary C p) r e ≡ break_at (spacing_checks C) r p
  unfolding spaced_in summary debt_of
  spaced-in = ⊎_elim
      (λ (y : leb (wait_for (waits_of C p) c r) e ≡ true). rw y (last_view C p h c e ∙ last-agree ∙ sym (over y)))
      (λ (n : leb (wait_for (waits_of C p) c r) e ≡ false). rw n (spacings-view C p h c r e (bank_in r) (omega arith) ∙ spacings-agree C S r p h))
      (decide (leb (wait_for (waits_of C p) c r) e))

  -- what the record breaks is what the rules say, looking back over all of the past
  pub broken-in : broken_in C (summary C p) r (edge (r ∷ p)) ≡ break_at (checks C) r p
  unfolding broken_in summary debt_of
  broken-in = λ i.
      or_else (rule1 c) (or_else ((ap (λ ks. rule2 c r ks e) (kepts-view C p) ∙ agrees2 C S r p h) i)
      (or_else ((ap (rule3 C c r) (written-view C p) ∙ agrees3 C S r p h) i) (spaced-in i)))

  -- ── Rules 26, 27, 29 and 30 ───────────────────────────────────────────────────────────────

  pub changed-in : 1 ≤ r.step → changed_in C (summary C p) r (edge (r ∷ p)) ≡ break_at (change_checks C) r p
  unfolding changed_in summary debt_of
  changed-in far = λ i. or_else ((entry-view C p h c e ∙ agrees26 C S r p h far) i) ((held-view C p h (changes (r ∷ p)) e ∙ agrees27 C S r p h far) i)

  pub left_in_lem : 1 ≤ r.step → left_in C (summary C p) r (edge (r ∷ p)) ≡ break_at (exit_checks C) r p
  unfolding left_in summary debt_of
  left_in_lem far = ⊎_elim
      (λ (y : leb (wait_for (waits_of C p) c r) e ≡ true). rw y (sym (all-over y).1))
      (λ (n : leb (wait_for (waits_of C p) c r) e ≡ false). rw n (exit_view C p h c e ∙ exits-agree C S r p h far))
      (decide (leb (wait_for (waits_of C p) c r) e))
