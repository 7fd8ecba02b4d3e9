-- The waiting times worked out afresh from what is kept are those that looking back over the whole recording gives; and how a record moves them.
-- Assumes nothing.
use Prim.Native.Nat.{ℕ, ◌<◌, max}
use native.Mathlib.Omega.{arith}
use mathlib.Core.Path.{◌≡◌, refl, sym, ap, ◌∙◌}
use mathlib.Core.Bool.{Bool, ◌||◌}
use mathlib.Core.List.{List, [], ◌∷◌}
use Rattle.laws.proofs.Both.{both}
use Rattle.records.specs.declared.Record.{Record}
use Rattle.records.specs.declared.Command.{Command}
use Rattle.records.specs.declared.Command.TheVariants.{Mrs, Ref, Pre, Act, Wr, Rd, Zq, Nop, Des, Sre, Srx, Low, Bad, Pde, Pdx}
use Rattle.chip.specs.declared.Chip.{Chip}
use Rattle.running.specs.Marks.{needing, as10, as11, as13, as14, as19}
use Rattle.running.specs.Waits.{ends, marks_for, wait_of}
use Rattle.rules.specs.Past.{Past, edge, is, latest, back, greatest}
use Rattle.rules.specs.Registers.{dll_reset}
use Rattle.rules.specs.Banks.{act_on, closes, shuts, start}
use Rattle.rules.specs.Down.{slow_exit}
use Rattle.rules.specs.Rules.{r4, r6, r7, r9, r10, r11, r12r, r12w, r13, r14, r15, r16, r17, r18, r19, r20, r21, r29, r30}
use Rattle.rules.specs.Waiting.{Ask, furthest, of_all, of_one, by, by_start, after_fourth, by_fourth, asks, wait, asked}
use Rattle.rules.proofs.Generic.{constant-dominated}
use Rattle.rules.proofs.Clean.{Clean}
use Rattle.rules.proofs.Starts.{greatest-latest}
use Rattle.rules.proofs.Facts.{Sound}
use Rattle.rules.proofs.Dominate.{need4, need10, need11, need13, need14, need18, need19, dominated-part, dominated4, dominated10, dominated11, dominated13, dominated14, dominated18, dominated19}
use Rattle.rules.proofs.Summary.{mark, rd_on, wr_on, start_mark, read_of, wrote_of, kept, acts, rests, shared}
use Rattle.rules.proofs.Furthest.{asks_from, ends-furthest, furthest-start, furthest-fourth}
use Rattle.rules.proofs.Words.{needing-mark, back-latest, as10-mark, as13-mark, as19-mark, as11-mark, as14-mark}

-- ── Afresh ──────────────────────────────────────────────────────────────────────────────────

module _ (C : Chip) (S : Sound C) (p : Past) (h : Clean C p) where
  -- of a constant need: the latest event of the kind, whatever need it is kept with
  constant : (n : ℕ) (who : Past → Bool) (need : Past → ℕ) → ends (needing n (mark need (latest who p))) ≡ furthest (asks_from edge who (λ _. n)) p
  constant n who need = ends-furthest who (λ _. n) p _ (needing-mark n need (latest who p)) (constant-dominated who n p)

  itself : (n : ℕ) (who : Past → Bool) → ends (mark (λ _. n) (latest who p)) ≡ furthest (asks_from edge who (λ _. n)) p
  itself n who = ends-furthest who (λ _. n) p _ refl (constant-dominated who n p)

  -- one line a rule, of the bank b where the rule is of one bank
  module _ (b : ℕ) (small : b < 8) where
    ends4 : ends (mark (need4 C) (latest (act_on b) p)) ≡ furthest (by C r4 (act_on b)) p
    ends4 = ends-furthest (act_on b) (need4 C) p _ refl (dominated4 C S p h b)

    ends5 : ends (start_mark C (latest (closes b) p)) ≡ furthest (by_start C (closes b)) p
    ends5 = ap (λ s. ends (start_mark C s)) (sym (greatest-latest C b small p h)) ∙ furthest-start C (closes b) p

    ends6 : ends (needing C.trc (mark (need4 C) (latest (act_on b) p))) ≡ furthest (by C r6 (act_on b)) p
    ends6 = constant C.trc (act_on b) (need4 C)

    ends9 : ends (needing C.tras (mark (need4 C) (latest (act_on b) p))) ≡ furthest (by C r9 (act_on b)) p
    ends9 = constant C.tras (act_on b) (need4 C)

    ends10 : ends (mark (need10 C) (latest (rd_on b) p)) ≡ furthest (by C r10 (rd_on b)) p
    ends10 = ends-furthest (rd_on b) (need10 C) p _ refl (dominated-part (rd_on b) (is Rd) (need10 C) p (λ s y. (both _ _ y).0) (dominated10 C S p h))

    ends11 : ends (mark (need11 C) (latest (wr_on b) p)) ≡ furthest (by C r11 (wr_on b)) p
    ends11 = ends-furthest (wr_on b) (need11 C) p _ refl (dominated-part (wr_on b) (is Wr) (need11 C) p (λ s y. (both _ _ y).0) (dominated11 C S p h))

  ends5all : ends (start_mark C (greatest shuts (start C) p)) ≡ furthest (by_start C shuts) p
  ends5all = furthest-start C shuts p

  ends7 : ends (needing C.trrd (mark (λ _. C.tras) (back (is Act) 0 p))) ≡ furthest (by C r7 (is Act)) p
  ends7 = ap (λ s. ends (needing C.trrd (mark (λ _. C.tras) s))) (back-latest (is Act) p) ∙ constant C.trrd (is Act) (λ _. C.tras)

  ends8 : ends (needing C.tfaw (mark (λ _. C.tras) (back (is Act) 3 p))) ≡ furthest (by_fourth C) p
  ends8 = ap ends (needing-mark C.tfaw (λ _. C.tras) (back (is Act) 3 p)) ∙ go (back (is Act) 3 p) ∙ furthest-fourth C p
    where
      go : (s : Past) → ends (mark (λ _. C.tfaw) s) ≡ after_fourth C s
      go [] = refl
      go (r ∷ s) = refl

  ends12r : ends (needing 4 (as10 (read_of C (latest (is Rd) p)))) ≡ furthest (by C r12r (is Rd)) p
  ends12r = ap (λ m. ends (needing 4 m)) (as10-mark C (latest (is Rd) p)) ∙ constant 4 (is Rd) (need10 C)

  ends12w : ends (needing 4 (as11 (wrote_of C (latest (is Wr) p)))) ≡ furthest (by C r12w (is Wr)) p
  ends12w = ap (λ m. ends (needing 4 m)) (as11-mark C (latest (is Wr) p)) ∙ constant 4 (is Wr) (need11 C)

  ends13 : ends (as13 (read_of C (latest (is Rd) p))) ≡ furthest (by C r13 (is Rd)) p
  ends13 = ends-furthest (is Rd) (need13 C) p _ (as13-mark C (latest (is Rd) p)) (dominated13 C S p h)

  ends14 : ends (as14 (wrote_of C (latest (is Wr) p))) ≡ furthest (by C r14 (is Wr)) p
  ends14 = ends-furthest (is Wr) (need14 C) p _ (as14-mark C (latest (is Wr) p)) (dominated14 C S p h)

  ends15 : ends (mark (λ _. C.trfc) (latest (is Ref) p)) ≡ furthest (by C r15 (is Ref)) p
  ends15 = itself C.trfc (is Ref)

  ends16 : ends (mark (λ _. 4) (latest (is Mrs) p)) ≡ furthest (by C r16 (is Mrs)) p
  ends16 = itself 4 (is Mrs)

  ends17 : ends (needing C.tmod (mark (λ _. 4) (latest (is Mrs) p))) ≡ furthest (by C r17 (is Mrs)) p
  ends17 = constant C.tmod (is Mrs) (λ _. 4)

  ends18 : ends (mark (need18 C) (latest (is Zq) p)) ≡ furthest (by C r18 (is Zq)) p
  ends18 = ends-furthest (is Zq) (need18 C) p _ refl (dominated18 C S p h)

  ends19 : ends (as19 (read_of C (latest (is Rd) p))) ≡ furthest (by C r19 (is Rd)) p
  ends19 = ends-furthest (is Rd) (need19 C) p _ (as19-mark C (latest (is Rd) p)) (dominated19 C S p h)

  ends20 : ends (mark (λ _. 512) (latest (λ s. dll_reset s || is Srx s) p)) ≡ furthest (by C r20 (λ s. dll_reset s || is Srx s)) p
  ends20 = itself 512 (λ s. dll_reset s || is Srx s)

  ends21 : ends (mark (λ _. C.txs) (latest (is Srx) p)) ≡ furthest (by C r21 (is Srx)) p
  ends21 = itself C.txs (is Srx)

  ends29 : ends (mark (λ _. C.txp) (latest (is Pdx) p)) ≡ furthest (by C r29 (is Pdx)) p
  ends29 = itself C.txp (is Pdx)

  ends30 : ends (mark (λ _. C.txpdll) (latest (slow_exit C) p)) ≡ furthest (by C r30 (slow_exit C)) p
  ends30 = itself C.txpdll (slow_exit C)

  -- worked out afresh from what is kept, a waiting time is that of the whole recording
  pub waits-afresh : (c : Command) (b : ℕ) → b < 8 → wait_of C c (kept C p b) (shared C p) ≡ wait C c b p
  unfolding wait_of marks_for wait asks kept shared acts rests
  waits-afresh Act b l = λ i.
      max (ends5 b l i) (max (ends6 b l i) (max (ends7 i) (max (ends8 i) (max (ends15 i) (max (ends17 i) (max (ends18 i) (max (ends21 i) (max (ends29 i) 0))))))))
  waits-afresh Rd b l = λ i.
      max (ends4 b l i) (max (ends12r i) (max (ends14 i) (max (ends15 i) (max (ends17 i) (max (ends18 i) (max (ends20 i) (max (ends21 i) (max (ends29 i) (max (ends30 i) 0)))))))))
  waits-afresh Wr b l = λ i.
      max (ends4 b l i) (max (ends12w i) (max (ends13 i) (max (ends15 i) (max (ends17 i) (max (ends18 i) (max (ends21 i) (max (ends29 i) 0)))))))
  waits-afresh Pre b l = λ i.
      max (ends9 b l i) (max (ends10 b l i) (max (ends11 b l i) (max (ends15 i) (max (ends17 i) (max (ends18 i) (max (ends21 i) (max (ends29 i) 0)))))))
  waits-afresh Ref b l = λ i. max (ends5all i) (max (ends15 i) (max (ends17 i) (max (ends18 i) (max (ends21 i) (max (ends29 i) 0)))))
  waits-afresh Zq b l = λ i. max (ends5all i) (max (ends15 i) (max (ends17 i) (max (ends18 i) (max (ends21 i) (max (ends29 i) 0)))))
  waits-afresh Mrs b l = λ i. max (ends5all i) (max (ends15 i) (max (ends16 i) (max (ends18 i) (max (ends19 i) (max (ends21 i) (max (ends29 i) 0))))))
  waits-afresh Sre b l = λ i. max (ends5all i) (max (ends15 i) (max (ends17 i) (max (ends18 i) (max (ends19 i) (max (ends21 i) (max (ends29 i) 0))))))
  waits-afresh Nop b l = refl
  waits-afresh Des b l = refl
  waits-afresh Srx b l = refl
  waits-afresh Low b l = refl
  waits-afresh Bad b l = refl
  waits-afresh Pde b l = refl
  waits-afresh Pdx b l = refl

-- ── How a record moves them ─────────────────────────────────────────────────────────────────

-- the latest of all is the later of what was and of what the event itself asks
of_one_lem : (l : List Ask) (r : Record) (p : Past) → of_all l (r ∷ p) ≡ max (of_all l p) (of_one l (r ∷ p))
of_one_lem [] r p = refl
of_one_lem (a ∷ l) r p = let k = of_one_lem l r p in omega arith

pub moves : (C : Chip) (c : Command) (b : ℕ) (r : Record) (p : Past) → wait C c b (r ∷ p) ≡ max (wait C c b p) (asked C c b (r ∷ p))
unfolding wait asked
moves C c b r p = of_one_lem (asks C c b) r p
