-- What the judge says of a record after a clean past is what the rules say, looking back.
-- Assumes nothing.
use Prim.Native.Nat.{ℕ, ◌+◌, ◌<◌}
use native.Mathlib.Omega.{arith}
use mathlib.Core.Path.{◌≡◌, refl, sym, ap, ◌∙◌}
use mathlib.Core.Logic.{⊎_elim}
use mathlib.Core.Bool.{Bool, true, false, cond, ◌&&◌, ◌||◌}
use mathlib.Core.List.{◌∷◌}
use lib.Dec.{ltb}
use borrow.Author.Tests.{ne_eqb, eq-eqb}
use Rattle.laws.proofs.Both.{both}
use Rattle.laws.specs.Eight.{table}
use Rattle.laws.proofs.Eight.{get_or-table}
use Rattle.answers.specs.declared.Break.{Break}
use Rattle.answers.specs.declared.Break.TheVariants.{Fine, Broken}
use Rattle.records.specs.declared.Record.{Record}
use Rattle.records.specs.declared.Command.{Command}
use Rattle.records.specs.declared.Command.TheVariants.{Mrs, Ref, Act, Wr, Rd, Zq, Sre, Srx}
use Rattle.records.specs.Command.{a10}
use Rattle.chip.specs.declared.Chip.{Chip}
use Rattle.running.specs.declared.Mark.{Mark}
use Rattle.running.specs.declared.Read.{Read}
use Rattle.running.specs.declared.Wrote.{Wrote}
use Rattle.running.specs.Marks.{empty, needing, as10, as11, as13, as14, as19}
use Rattle.running.specs.Breaks as running
use Rattle.rules.specs.Past.{Past, edge, number, command, is, bank_of, on, latest, back, greatest}
use Rattle.answers.specs.Answer.{or_else}
use Rattle.rules.specs.Search.{Spacing, row}
use Rattle.rules.specs.Registers.{dll_reset}
use Rattle.rules.specs.Banks.{act_on, closes, shuts, start, status}
use Rattle.rules.specs.Rules.{concerns, barred, covered, r4, r6, r7, r9, r10, r11, r12r, r12w, r13, r14, r15, r16, r17, r18, r19, r20, r21, r22, rule2, rule3, rule5, rule23, spacing, checks, break_at}
use Rattle.rules.proofs.Generic.{decide, Dominated, constant-dominated}
use Rattle.rules.proofs.Events.{never, push}
use Rattle.rules.proofs.Clean.{Clean, lowest-ext, wants_all, act-not-all}
use Rattle.rules.proofs.Starts.{greatest-latest}
use Rattle.rules.proofs.Facts.{Sound}
use Rattle.rules.proofs.Dominate.{need4, need10, need11, need18, dominated-part, dominated4, dominated10, dominated11, dominated13, dominated14, dominated18, dominated19}
use Rattle.rules.proofs.Summary.{mark, rd_on, wr_on, start_mark, read_of, wrote_of, kept, written, acts, rests, shared}
use Rattle.rules.proofs.Status.{mark-num, status-of}
use Rattle.rules.proofs.Words.{check, also, needing-mark, back-latest, or-fine, spacing_checks, row-agrees, covered-latest, as10-mark, as13-mark, as19-mark, as11-mark, as14-mark, since-mark, fourth-mark, later_of_lem, srx-not-ref, woken}
use Rattle.rules.proofs.InTheWay.{may-is, speaks, all-concern, off-concern, own-concern, lowest-single}

module _ (C : Chip) (S : Sound C) (r : Record) (p : Past) (h : Clean C p) where
  abbrev e : ℕ
  e = edge (r ∷ p)

  abbrev b : ℕ
  b = bank_of (r ∷ p)

  abbrev c : Command
  c = command (r ∷ p)

  -- a bank in the way, from what is kept and by looking back
  barred-at : (n : ℕ) → n < 8 → running.barred_at c (table (kept C p)) e n ≡ running.barred_by (running.wants c) (status C n p e)
  barred-at n l = ap (running.barred_by (running.wants c)) (ap (λ k. running.status_of k e) (get_or-table (kept C p) n empty l) ∙ status-of C n e p)

  pub agrees2 : running.rule2 c r (table (kept C p)) e ≡ rule2 C r p
  unfolding running.rule2
  agrees2 = ⊎_elim
      (λ (y : speaks c (a10 r) ≡ true).
      rw y (lowest-ext _ _ 8 (λ n l. barred-at n l ∙ sym (may-is c (status C n p e)) ∙ ap (λ x. barred c x (status C n p e)) (sym (all-concern c (a10 r) (on n (r ∷ p)) y)))))
      (λ (z : speaks c (a10 r) ≡ false).
      rw z (barred-at b (omega arith) ∙ sym (own-concern c (a10 r) (status C b p e) z)
      ∙ ap (λ x. barred c (concerns c (a10 r) x) (status C b p e)) (sym (eq-eqb b b refl))
      ∙ sym (lowest-single (λ n. barred c (concerns c (a10 r) (on n (r ∷ p))) (status C n p e)) 8 b (omega arith) (others z))))
      (decide (speaks c (a10 r)))
    where
      others : speaks c (a10 r) ≡ false → (n : ℕ) → n < 8 → (n ≡ b → ⊥) → barred c (concerns c (a10 r) (on n (r ∷ p))) (status C n p e) ≡ Fine
      others z n l q =
          ap (λ x. barred c (concerns c (a10 r) x) (status C n p e)) (ne_eqb b n (λ w. q (sym w)))
          ∙ ap (λ x. barred c x (status C n p e)) (off-concern c (a10 r) z)

  -- ── Rules 4 to 23 ─────────────────────────────────────────────────────────────────────────

  abbrev at : (R : Spacing) → Mark → Break
  at R m = cond (R.to (r ∷ p)) (check R.name e m) Fine

  -- one mark for a PRE: of all banks or of its own
  pre-mark : (need : Past → ℕ) (k : Past → Bool) (m o : Mark) → m ≡ mark need (latest k p) → o ≡ mark need (latest (λ s. k s && on b s) p)
      → cond (a10 r) m o ≡ mark need (latest (λ s. k s && covered (r ∷ p) s) p)
  pre-mark need k m o x y =
      (λ i. cond (a10 r) (x i) (y i))
      ∙ push (mark need) (a10 r) (latest k p) (latest (λ s. k s && on b s) p)
      ∙ ap (mark need) (sym (covered-latest k (a10 r) b p))

  by : (R : Spacing) (m : Mark) → Dominated edge (R.from (r ∷ p)) R.need p → m ≡ mark R.need (latest (R.from (r ∷ p)) p) → at R m ≡ row R r p
  by R m d x = ap (at R) x ∙ sym (row-agrees R r p d)

  abbrev all : Bool
  all = wants_all (r ∷ p)

  agrees5 : cond (is Act (r ∷ p)) (check 5 e (start_mark C (latest (closes b) p))) (cond all (check 5 e (start_mark C (greatest shuts (start C) p))) Fine) ≡ rule5 C r p
  agrees5 = rw (since-mark C e (latest (closes b) p), since-mark C e (greatest shuts (start C) p), greatest-latest C b (omega arith) p h)

  -- rule 5 is checked in two places
  five : {rest others : Break} → rest ≡ others
      → running.when_is (is Act (r ∷ p)) 5 e (start_mark C (latest (closes b) p)) (running.when_is all 5 e (start_mark C (greatest shuts (start C) p)) rest)
      ≡ or_else (rule5 C r p) others
  unfolding or_else
  five {rest} {others} q =
      also (is Act (r ∷ p)) 5 e (start_mark C (latest (closes b) p)) refl (also all 5 e (start_mark C (greatest shuts (start C) p)) refl q)
      ∙ joined (is Act (r ∷ p)) all (act-not-all (r ∷ p)) (check 5 e (start_mark C (latest (closes b) p))) (check 5 e (start_mark C (greatest shuts (start C) p)))
      ∙ ap (λ x. or_else x others) agrees5
    where
      joined : (x l : Bool) → (x ≡ true → l ≡ false) → (X Y : Break) → or_else (cond x X Fine) (or_else (cond l Y Fine) others) ≡ or_else (cond x X (cond l Y Fine)) others
      joined true true f X Y = never refl (f refl)
      joined true false f X Y = refl
      joined false l f X Y = refl

  agrees23 : cond (is Sre (r ∷ p) && ltb (number (latest (is Ref) p)) (number (latest (is Srx) p))) (Broken 23 (number (latest (is Srx) p)) 0 0) Fine ≡ rule23 C r p
  agrees23 = rw (woken p) (⊎_elim
      (λ (y : ltb (number (latest (is Ref) p)) (number (latest (is Srx) p)) ≡ true). rw (later_of_lem (is Srx) (is Ref) srx-not-ref p, y))
      (λ (n : ltb (number (latest (is Ref) p)) (number (latest (is Srx) p)) ≡ false). rw n (no (is Sre (r ∷ p))))
      (decide (ltb (number (latest (is Ref) p)) (number (latest (is Srx) p)))))
    where
      no : (x : Bool) → cond (x && false) (Broken 23 (number (latest (is Srx) p)) 0 0) Fine ≡ cond (x && false) (Broken 23 (number (latest (λ s. is Srx s || is Ref s) p)) 0 0) Fine
      no true = refl
      no false = refl

  pub marks23 : cond (is Sre (r ∷ p) && ltb (mark (λ _. C.trfc) (latest (is Ref) p)).num (mark (λ _. C.txs) (latest (is Srx) p)).num)
      (Broken 23 (mark (λ _. C.txs) (latest (is Srx) p)).num 0 0) Fine ≡ rule23 C r p
  marks23 = rw (mark-num (λ _. C.trfc) (latest (is Ref) p), mark-num (λ _. C.txs) (latest (is Srx) p)) agrees23

  -- the latest ACT of all, under a constant need
  latest-act : (n : ℕ) → needing n (mark (λ _. C.tras) (back (is Act) 0 p)) ≡ mark (λ _. n) (latest (is Act) p)
  latest-act n = needing-mark n (λ _. C.tras) (back (is Act) 0 p) ∙ ap (mark (λ _. n)) (back-latest (is Act) p)

  -- one row more
  pub row-also :
      (R : Spacing) (m : Mark) {rest others : Break} → Dominated edge (R.from (r ∷ p)) R.need p → m ≡ mark R.need (latest (R.from (r ∷ p)) p)
      → rest ≡ others → running.when_is (R.to (r ∷ p)) R.name e m rest ≡ or_else (row R r p) others
  row-also R m d x q = also (R.to (r ∷ p)) R.name e m (by R m d x) q

  abbrev acted : Mark
  acted = mark (need4 C) (latest (act_on b) p)

  abbrev act_back : ℕ → Mark
  act_back n = mark (λ _. C.tras) (back (is Act) n p)

  abbrev read : Read
  read = read_of C (latest (is Rd) p)

  abbrev wrote : Wrote
  wrote = wrote_of C (latest (is Wr) p)

  abbrev mrs : Mark
  mrs = mark (λ _. 4) (latest (is Mrs) p)

  pub spacings-agree : running.spacings C c r e (kept C p b) (shared C p) ≡ break_at (spacing_checks C) r p
  unfolding running.spacings kept shared acts rests
  spacings-agree =
      row-also (spacing C r4) acted (dominated4 C S p h b) refl
      (five
      (row-also (spacing C r6) (needing C.trc acted) (constant-dominated _ C.trc p) (needing-mark C.trc (need4 C) (latest (act_on b) p))
      (row-also (spacing C r7) (needing C.trrd (act_back 0)) (constant-dominated _ C.trrd p) (latest-act C.trrd)
      (also (is Act (r ∷ p)) 8 e (needing C.tfaw (act_back 3))
      (ap (λ x. cond (is Act (r ∷ p)) x Fine) (ap (check 8 e) (needing-mark C.tfaw (λ _. C.tras) (back (is Act) 3 p)) ∙ fourth-mark C e (back (is Act) 3 p)))
      (row-also (spacing C r9) (cond (a10 r) (act_back 0) (needing C.tras acted)) (constant-dominated _ C.tras p)
      (pre-mark (λ _. C.tras) (is Act) _ _ (ap (mark (λ _. C.tras)) (back-latest (is Act) p)) (needing-mark C.tras (need4 C) (latest (act_on b) p)))
      (row-also (spacing C r10) (cond (a10 r) (as10 read) (mark (need10 C) (latest (rd_on b) p)))
      (dominated-part _ (is Rd) (need10 C) p (λ s y. (both _ _ y).0) (dominated10 C S p h)) (pre-mark (need10 C) (is Rd) _ _ (as10-mark C (latest (is Rd) p)) refl)
      (row-also (spacing C r11) (cond (a10 r) (as11 wrote) (mark (need11 C) (latest (wr_on b) p)))
      (dominated-part _ (is Wr) (need11 C) p (λ s y. (both _ _ y).0) (dominated11 C S p h)) (pre-mark (need11 C) (is Wr) _ _ (as11-mark C (latest (is Wr) p)) refl)
      (row-also (spacing C r12r) (needing 4 (as10 read)) (constant-dominated _ 4 p)
      (ap (needing 4) (as10-mark C (latest (is Rd) p)) ∙ needing-mark 4 (need10 C) (latest (is Rd) p))
      (row-also (spacing C r12w) (needing 4 (as11 wrote)) (constant-dominated _ 4 p)
      (ap (needing 4) (as11-mark C (latest (is Wr) p)) ∙ needing-mark 4 (need11 C) (latest (is Wr) p))
      (row-also (spacing C r13) (as13 read) (dominated13 C S p h) (as13-mark C (latest (is Rd) p))
      (row-also (spacing C r14) (as14 wrote) (dominated14 C S p h) (as14-mark C (latest (is Wr) p))
      (row-also (spacing C r15) (mark (λ _. C.trfc) (latest (is Ref) p)) (constant-dominated _ C.trfc p) refl
      (row-also (spacing C r16) mrs (constant-dominated _ 4 p) refl
      (row-also (spacing C r17) (needing C.tmod mrs) (constant-dominated _ C.tmod p) (needing-mark C.tmod (λ _. 4) (latest (is Mrs) p))
      (row-also (spacing C r18) (mark (need18 C) (latest (is Zq) p)) (dominated18 C S p h) refl
      (row-also (spacing C r19) (as19 read) (dominated19 C S p h) (as19-mark C (latest (is Rd) p))
      (row-also (spacing C r20) (mark (λ _. 512) (latest (λ s. dll_reset s || is Srx s) p)) (constant-dominated _ 512 p) refl
      (row-also (spacing C r21) (mark (λ _. C.txs) (latest (is Srx) p)) (constant-dominated _ C.txs p) refl
      (row-also (spacing C r22) (mark (λ _. C.tcke + 1) (latest (is Sre) p)) (constant-dominated _ (C.tcke + 1) p) refl
      (marks23 ∙ sym (or-fine (rule23 C r p))))))))))))))))))))))

  pub agrees3 : running.rule3 C c r (written C p) ≡ rule3 C r p
  unfolding running.rule3 written
  agrees3 = refl

  -- what the judge says of the record is what the rules say, looking back over all of the past
  pub record-agrees :
      running.joined c (running.rule2 c r (table (kept C p)) e) (running.rule3 C c r (written C p)) (running.spacings C c r e (kept C p b) (shared C p))
      ≡ break_at (checks C) r p
  record-agrees = λ i. or_else (running.rule1 c) (or_else (agrees2 i) (or_else (agrees3 i) (spacings-agree i)))
