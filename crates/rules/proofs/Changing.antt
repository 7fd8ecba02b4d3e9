-- What is said of a record after a clean past by rules 26, 27, 29 and 30 is what the rules say, looking back.
-- Assumes nothing.
use Prim.Native.Nat.{ℕ, zero, suc, ◌≤◌, ◌<◌}
use native.Mathlib.Omega.{arith}
use mathlib.Core.Path.{◌≡◌, refl, sym, ap, ◌∙◌}
use mathlib.Core.Bool.{Bool, true, false, cond, ◌&&◌, ◌||◌}
use mathlib.Core.List.{◌∷◌}
use lib.Dec.{eqb}
use lib.ListN.{get_or}
use Rattle.laws.specs.Any.{any_of}
use Rattle.laws.specs.Eight.{table}
use Rattle.laws.proofs.Eight.{get_or-table}
use Rattle.answers.specs.declared.Break.TheVariants.{Fine}
use Rattle.answers.specs.Answer.{or_else}
use Rattle.records.specs.declared.Record.{Record}
use Rattle.records.specs.declared.Command.{Command}
use Rattle.records.specs.declared.Command.TheVariants.{Mrs, Wr, Rd, Pde, Pdx}
use Rattle.chip.specs.declared.Chip.{Chip}
use Rattle.running.specs.declared.Mark.{Mark}
use Rattle.running.specs.Marks.{empty, needing}
use Rattle.running.specs.Marks as marks
use Rattle.running.specs.Down as running
use Rattle.running.specs.Down.{later_of, latest_of, entry_read, entry_write}
use Rattle.rules.specs.Past.{Past, edge, changes, command, is, bank_of, latest}
use Rattle.rules.specs.Registers.{regs}
use Rattle.rules.specs.Down.{turned, slow_exit}
use Rattle.rules.specs.Search.{look_back, asking, row}
use Rattle.rules.specs.Rules.{r26, r27, r29, r30, to_entry, spacing, exit_checks, break_at}
use Rattle.rules.proofs.Generic.{Dominated, edge-reached, latest-only, constant-dominated}
use Rattle.rules.proofs.Clean.{Clean, is-other}
use Rattle.rules.proofs.Facts.{Sound}
use Rattle.rules.proofs.Dominate.{bank-small}
use Rattle.rules.proofs.Summary.{mark, wr_on, read_of, kept, rests, shared}
use Rattle.rules.proofs.Words.{check, check-mark, needing-mark}
use Rattle.rules.proofs.Either.{either-kind, any-kind, asks-same, latest-of-same}
use Rattle.rules.proofs.Entry.{after_read, after_write, dominated26r, dominated26w}
use Rattle.rules.proofs.Entering.{read-agrees, write-agrees}
use Rattle.rules.proofs.Agree.{row-also}

-- a record's bank is one of the eight
bank-any : (n : ℕ) (x : Bool) → n < 8 → any_of (λ b. x && eqb n b) 8 ≡ x
unfolding any_of
bank-any n false l = refl
bank-any zero true l = refl
bank-any (suc zero) true l = refl
bank-any (suc (suc zero)) true l = refl
bank-any (suc (suc (suc zero))) true l = refl
bank-any (suc (suc (suc (suc zero)))) true l = refl
bank-any (suc (suc (suc (suc (suc zero))))) true l = refl
bank-any (suc (suc (suc (suc (suc (suc zero)))))) true l = refl
bank-any (suc (suc (suc (suc (suc (suc (suc zero))))))) true l = refl
bank-any (suc (suc (suc (suc (suc (suc (suc (suc n)))))))) true l = absurd (omega arith)

swapped : (x y z : Bool) (n : ℕ) → cond (x || (y || z)) n 0 ≡ cond (y || (x || z)) n 0
swapped true true z n = refl
swapped true false z n = refl
swapped false true z n = refl
swapped false false z n = refl

asked-where : (x : Bool) (m n : ℕ) → (x ≡ true → m ≡ n) → cond x m 0 ≡ cond x n 0
asked-where true m n f = f refl
asked-where false m n f = refl

module _ (C : Chip) where
  rd-asks : (s : Past) → is Rd s ≡ true → to_entry C s ≡ after_read C s
  unfolding to_entry
  rd-asks s y = rw y

  wr-asks : (s : Past) → is Wr s ≡ true → to_entry C s ≡ after_write C s
  unfolding to_entry
  wr-asks s y = rw (is-other Wr Rd s (λ z. omega arith) y, y)

  mrs-asks : (s : Past) → is Mrs s ≡ true → to_entry C s ≡ C.tmod
  unfolding to_entry
  mrs-asks s y = rw (is-other Mrs Rd s (λ z. omega arith) y, is-other Mrs Wr s (λ z. omega arith) y)

module _ (C : Chip) (S : Sound C) (r : Record) (p : Past) (h : Clean C p) (far : 1 ≤ r.step) where
  abbrev e : ℕ
  e = edge (r ∷ p)

  abbrev c : Command
  c = command (r ∷ p)

  abbrev mrs : Mark
  mrs = mark (λ _. 4) (latest (is Mrs) p)

  -- of a kind whose past is dominated: the check of the latest
  one-kind : (k : Past → Bool) (need : Past → ℕ) → Dominated edge k need p → look_back edge 26 (asking k need) e p ≡ check 26 e (mark need (latest k p))
  one-kind k need d =
      latest-only edge 26 e k need p (edge-reached need e p (omega arith)) d ∙ sym (check-mark 26 e need (latest k p))

  -- the same kind under the need of rule 26
  asks-as : (k : Past → Bool) (need : Past → ℕ) → ((s : Past) → k s ≡ true → to_entry C s ≡ need s)
      → look_back edge 26 (asking k (to_entry C)) e p ≡ look_back edge 26 (asking k need) e p
  asks-as k need f = asks-same edge 26 (asking k (to_entry C)) (asking k need) e p (λ s. asked-where (k s) (to_entry C s) (need s) (f s))

  reads : look_back edge 26 (asking (is Rd) (to_entry C)) e p ≡ check 26 e (mark (after_read C) (latest (is Rd) p))
  reads = asks-as (is Rd) (after_read C) (rd-asks C) ∙ one-kind (is Rd) (after_read C) (dominated26r C S p h)

  modes : look_back edge 26 (asking (is Mrs) (to_entry C)) e p ≡ check 26 e (mark (λ _. C.tmod) (latest (is Mrs) p))
  modes = asks-as (is Mrs) (λ _. C.tmod) (mrs-asks C) ∙ one-kind (is Mrs) (λ _. C.tmod) (constant-dominated (is Mrs) C.tmod p)

  writes : look_back edge 26 (asking (is Wr) (to_entry C)) e p
      ≡ latest_of (λ b. check 26 e (entry_write (regs p) mrs (get_or (table (kept C p)) b empty))) 8
  writes =
      asks-as (is Wr) (after_write C) (wr-asks C)
      ∙ asks-same edge 26 (asking (is Wr) (after_write C)) (asking (λ s. any_of (λ b. wr_on b s) 8) (after_write C)) e p
      (λ s. ap (λ x. cond x (after_write C s) 0) (sym (bank-any (bank_of s) (is Wr s) (bank-small s))))
      ∙ any-kind edge 26 wr_on (after_write C) e p 8
      ∙ latest-of-same _ _ 8 (λ b l.
      one-kind (wr_on b) (after_write C) (dominated26w C S p h b l)
      ∙ sym (write-agrees C S r p h far b l)
      ∙ ap (λ k. check 26 e (entry_write (regs p) mrs k)) (sym (get_or-table (kept C p) b empty l)))

  entry-agrees :
      later_of (latest_of (λ b. check 26 e (entry_write (regs p) mrs (get_or (table (kept C p)) b empty))) 8)
      (later_of (check 26 e (entry_read (regs p) mrs (read_of C (latest (is Rd) p)))) (check 26 e (needing C.tmod mrs)))
      ≡ look_back edge 26 (asking (λ s. is Rd s || (is Wr s || is Mrs s)) (to_entry C)) e p
  entry-agrees =
      ap (λ m. later_of (latest_of (λ b. check 26 e (entry_write (regs p) mrs (get_or (table (kept C p)) b empty))) 8)
      (later_of (check 26 e (entry_read (regs p) mrs (read_of C (latest (is Rd) p)))) (check 26 e m))) (needing-mark C.tmod (λ _. 4) (latest (is Mrs) p))
      ∙ sym (
      asks-same edge 26 _ _ e p (λ s. swapped (is Rd s) (is Wr s) (is Mrs s) (to_entry C s))
      ∙ either-kind edge 26 (is Wr) (λ s. is Rd s || is Mrs s) (to_entry C) e p
      ∙ (λ i. later_of (writes i) ((either-kind edge 26 (is Rd) (is Mrs) (to_entry C) e p ∙ (λ j. later_of (reads j) (modes j)) ∙ sym (read-agrees C S r p h far)) i)))

  pub agrees26 : running.rule26 C c (table (kept C p)) (shared C p) e ≡ row (spacing C r26) r p
  unfolding running.rule26 shared marks.spaced
  agrees26 = ap (λ x. cond (is Pde (r ∷ p)) x Fine) entry-agrees

  pub agrees27 : running.rule27 (changes (r ∷ p)) e (shared C p) ≡ or_else (row (spacing C r27) r p) Fine
  unfolding shared rests
  agrees27 = row-also C S r p h (spacing C r27) (mark (λ _. C.tcke) (turned p)) (constant-dominated changes C.tcke p) refl refl

  pub exits-agree : running.exit_rules c e (shared C p) ≡ break_at (exit_checks C) r p
  unfolding running.exit_rules shared rests
  exits-agree =
      row-also C S r p h (spacing C r29) (mark (λ _. C.txp) (latest (is Pdx) p)) (constant-dominated (is Pdx) C.txp p) refl
      (row-also C S r p h (spacing C r30) (mark (λ _. C.txpdll) (latest (slow_exit C) p)) (constant-dominated (slow_exit C) C.txpdll p) refl refl)
