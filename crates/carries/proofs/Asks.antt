-- What a record asks of later commands is what the rules say that it asks, and so it moves the waiting times of the summary.
-- Assumes nothing.
use Prim.Native.Nat.{ℕ, ◌+◌, max}
use native.Mathlib.Omega.{arith}
use mathlib.Core.Path.{◌≡◌, refl, sym, ap, ◌∙◌}
use mathlib.Core.Bool.{Bool, true, false, cond, ◌&&◌, ◌||◌}
use mathlib.Core.List.{[], ◌∷◌, ◌++◌}
use lib.Dec.{eqb}
use borrow.Author.Tests.{ne_eqb}
use Rattle.laws.proofs.Both.{both}
use Rattle.laws.proofs.Eight.{get_or-table, get_or-first, get_or-second, table-ext}
use Rattle.records.specs.declared.Record.{Record}
use Rattle.records.specs.declared.Command.{Command}
use Rattle.records.specs.declared.Command.TheVariants.{Mrs, Ref, Pre, Act, Wr, Rd, Zq, Sre, Srx, Pdx}
use Rattle.chip.specs.declared.Chip.{Chip}
use Rattle.chip.specs.declared.Regs.{Regs}
use Rattle.running.specs.Next.{need4, need10, need11}
use Rattle.edges.specs.Asks.{need13, need14, need19, four_back, when, asks_act, asks_rd, asks_wr, asks_pre, asks_ref, asks_mrs, asks_sre, waits_next}
use Rattle.edges.specs.Next.{start_of, slow_now}
use Rattle.rules.specs.Past.{Past, edge, number, command, is, on, back}
use Rattle.rules.specs.Registers.{regs, dll_reset}
use Rattle.rules.specs.Banks.{act_on, closes, shuts}
use Rattle.rules.specs.Down.{slow_exit}
use Rattle.rules.specs.Search.{asking}
use Rattle.rules.specs.Rules.{r6, r7, r9, r12r, r12w, r15, r16, r17, r18, r20, r21, r29, r30}
use Rattle.rules.specs.Waiting.{Ask, by, by_start, after_fourth, by_fourth, asks, asked, wait}
use Rattle.rules.proofs.Clean.{Clean}
use Rattle.rules.proofs.Waiting.{moves}
use Rattle.carries.proofs.Summary.{turn_of, acts_of, banks_of, waits_of, device_of}
use Rattle.carries.proofs.Views.{turn_small, ring-at}
use Rattle.carries.proofs.Shut.{closes-shuts}
use Rattle.carries.proofs.Moves.{regs-still, start-kept, slow-is}

-- asked where x holds
asked-where : (x : Bool) (m n : ℕ) → (x ≡ true → m ≡ n) → when x m ≡ cond x n 0
asked-where true m n h = h refl
asked-where false m n h = refl

module _ (C : Chip) (r : Record) (p : Past) (h : Clean C p) where
  abbrev e : ℕ
  e = edge (r ∷ p)

  abbrev c : Command
  c = command (r ∷ p)

  abbrev from : ℕ
  from = start_of C c r e (regs p) (banks_of C p)

  abbrev four : ℕ
  four = four_back C (acts_of p)

  abbrev slow : Bool
  slow = slow_now (banks_of C p) (device_of C p)

  -- what the rule a asks by the record itself
  abbrev one : Ask → ℕ
  one a = asking a.who a.until (r ∷ p)

  -- ── One rule ──────────────────────────────────────────────────────────────────────────────

  -- rule 5
  five : (b : ℕ) → when (closes b (r ∷ p)) (from + C.trp) ≡ one (by_start C (closes b))
  five b = asked-where (closes b (r ∷ p)) _ _ (λ y. ap (λ n. n + C.trp) (start-kept r p C (closes-shuts b (r ∷ p) y)))

  five-all : when (shuts (r ∷ p)) (from + C.trp) ≡ one (by_start C shuts)
  five-all = asked-where (shuts (r ∷ p)) _ _ (λ y. ap (λ n. n + C.trp) (start-kept r p C y))

  -- rule 8: the ACT that has two after it is the third before the record's own
  eight : when (is Act (r ∷ p)) (four_back C (acts_of p)) ≡ one (by_fourth C)
  unfolding acts_of
  eight = asked-where (is Act (r ∷ p)) _ _ (λ y. at-two ∙ after (back (is Act) 2 p) ∙ ap (after_fourth C) (third y))
    where
      third : is Act (r ∷ p) ≡ true → back (is Act) 2 p ≡ back (is Act) 3 (r ∷ p)
      third y = rw y

      at-two : four_back C (acts_of p) ≡ cond (eqb (number (back (is Act) 2 p)) 0) 0 (edge (back (is Act) 2 p) + C.tfaw)
      at-two = λ i.
          cond (eqb (ring-at (turn_of p) 2 (λ n. number (back (is Act) n p)) 0 (turn_small p) (omega arith) i) 0) 0
          (ring-at (turn_of p) 2 (λ n. edge (back (is Act) n p)) 0 (turn_small p) (omega arith) i + C.tfaw)

      after : (s : Past) → cond (eqb (number s) 0) 0 (edge s + C.tfaw) ≡ after_fourth C s
      after [] = refl
      after (q ∷ s) = rw (ne_eqb (number (q ∷ s)) 0 (λ z. omega arith))

  -- a need by the registers in force, of a command that is no MRS
  by-regs : (x : Bool) (f : Regs → ℕ) → (x ≡ true → regs p ≡ regs (r ∷ p)) → when x (e + f (regs p)) ≡ cond x (e + f (regs (r ∷ p))) 0
  by-regs x f h = asked-where x _ _ (λ y. ap (λ g. e + f g) (h y))

  act-regs : (b : ℕ) → act_on b (r ∷ p) ≡ true → regs p ≡ regs (r ∷ p)
  act-regs b y = regs-still r p Act (λ z. omega arith) (both (is Act (r ∷ p)) _ y).0

  rd-regs : is Rd (r ∷ p) ≡ true → regs p ≡ regs (r ∷ p)
  rd-regs y = regs-still r p Rd (λ z. omega arith) y

  wr-regs : is Wr (r ∷ p) ≡ true → regs p ≡ regs (r ∷ p)
  wr-regs y = regs-still r p Wr (λ z. omega arith) y

  -- rule 30
  thirty : when (is Pdx (r ∷ p) && slow) (e + C.txpdll) ≡ one (by C r30 (slow_exit C))
  thirty = ap (λ x. cond x (e + C.txpdll) 0) (slow-is r p C h)

  -- ── One command ───────────────────────────────────────────────────────────────────────────

  module _ (b : ℕ) where
    asks-act : asks_act C c r e (regs p) from four slow b ≡ asked C Act b (r ∷ p)
    unfolding asks_act asked asks
    asks-act = λ i. max (five b i) (max (one (by C r6 (act_on b))) (max (one (by C r7 (is Act))) (max (eight i)
        (max (one (by C r15 (is Ref))) (max (one (by C r17 (is Mrs))) (max (one (by C r18 (is Zq))) (max (one (by C r21 (is Srx))) (max (one (by C r29 (is Pdx))) 0))))))))

    asks-rd : asks_rd C c r e (regs p) from four slow b ≡ asked C Rd b (r ∷ p)
    unfolding asks_rd asked asks
    asks-rd = λ i. max (by-regs (act_on b (r ∷ p)) (need4 C) (act-regs b) i) (max (one (by C r12r (is Rd)))
        (max (by-regs (is Wr (r ∷ p)) (need14 C) wr-regs i) (max (one (by C r15 (is Ref))) (max (one (by C r17 (is Mrs)))
        (max (one (by C r18 (is Zq))) (max (one (by C r20 (λ s. dll_reset s || is Srx s))) (max (one (by C r21 (is Srx))) (max (one (by C r29 (is Pdx))) (max (thirty i) 0)))))))))

    asks-wr : asks_wr C c r e (regs p) from four slow b ≡ asked C Wr b (r ∷ p)
    unfolding asks_wr asked asks
    asks-wr = λ i. max (by-regs (act_on b (r ∷ p)) (need4 C) (act-regs b) i) (max (one (by C r12w (is Wr)))
        (max (by-regs (is Rd (r ∷ p)) (λ g. need13 g r) rd-regs i) (max (one (by C r15 (is Ref))) (max (one (by C r17 (is Mrs)))
        (max (one (by C r18 (is Zq))) (max (one (by C r21 (is Srx))) (max (one (by C r29 (is Pdx))) 0)))))))

    asks-pre : asks_pre C c r e (regs p) from four slow b ≡ asked C Pre b (r ∷ p)
    unfolding asks_pre asked asks
    asks-pre = λ i. max (one (by C r9 (act_on b)))
        (max (by-regs (is Rd (r ∷ p) && on b (r ∷ p)) (need10 C) (λ y. rd-regs (both (is Rd (r ∷ p)) _ y).0) i)
        (max (by-regs (is Wr (r ∷ p) && on b (r ∷ p)) (need11 C) (λ y. wr-regs (both (is Wr (r ∷ p)) _ y).0) i)
        (max (one (by C r15 (is Ref))) (max (one (by C r17 (is Mrs))) (max (one (by C r18 (is Zq))) (max (one (by C r21 (is Srx))) (max (one (by C r29 (is Pdx))) 0)))))))

  asks-ref : asks_ref C c r e (regs p) from four slow ≡ asked C Ref 0 (r ∷ p)
  unfolding asks_ref asked asks
  asks-ref = λ i. max (five-all i)
      (max (one (by C r15 (is Ref))) (max (one (by C r17 (is Mrs))) (max (one (by C r18 (is Zq))) (max (one (by C r21 (is Srx))) (max (one (by C r29 (is Pdx))) 0)))))

  asks-zq : asks_ref C c r e (regs p) from four slow ≡ asked C Zq 0 (r ∷ p)
  unfolding asked asks
  asks-zq = asks-ref

  asks-mrs : asks_mrs C c r e (regs p) from four slow ≡ asked C Mrs 0 (r ∷ p)
  unfolding asks_mrs asked asks
  asks-mrs = λ i. max (five-all i)
      (max (one (by C r15 (is Ref))) (max (one (by C r16 (is Mrs))) (max (one (by C r18 (is Zq)))
      (max (by-regs (is Rd (r ∷ p)) (λ g. need19 g r) rd-regs i) (max (one (by C r21 (is Srx))) (max (one (by C r29 (is Pdx))) 0))))))

  asks-sre : asks_sre C c r e (regs p) from four slow ≡ asked C Sre 0 (r ∷ p)
  unfolding asks_sre asked asks
  asks-sre = λ i. max (five-all i)
      (max (one (by C r15 (is Ref))) (max (one (by C r17 (is Mrs))) (max (one (by C r18 (is Zq)))
      (max (by-regs (is Rd (r ∷ p)) (λ g. need19 g r) rd-regs i) (max (one (by C r21 (is Srx))) (max (one (by C r29 (is Pdx))) 0))))))

  -- ── The waiting times ─────────────────────────────────────────────────────────────────────

  pub waits-next : waits_next C c r e (regs p) from four slow (waits_of C p) ≡ waits_of C (r ∷ p)
  unfolding waits_next waits_of
  waits-next = λ i. record {
    act = table-ext _ (λ b. wait C Act b (r ∷ p)) (λ b l. raised Act b (get_or-table (λ b. wait C Act b p) b 0 l) (asks-act b)) i;
    col =
        table-ext _ (λ b. wait C Rd b (r ∷ p)) (λ b l. raised Rd b (get_or-first (λ b. wait C Rd b p) (λ b. wait C Wr b p) b 0 l) (asks-rd b)) i
        ++ table-ext _ (λ b. wait C Wr b (r ∷ p)) (λ b l. raised Wr b (get_or-second (λ b. wait C Rd b p) (λ b. wait C Wr b p) b 0 l) (asks-wr b)) i;
    pre = table-ext _ (λ b. wait C Pre b (r ∷ p)) (λ b l. raised Pre b (get_or-table (λ b. wait C Pre b p) b 0 l) (asks-pre b)) i;
    holds = raised Ref 0 refl asks-ref i ∷ raised Mrs 0 refl asks-mrs i ∷ raised Zq 0 refl asks-zq i ∷ raised Sre 0 refl asks-sre i ∷ [];
  }
    where
      raised : (k : Command) (b : ℕ) {m n : ℕ} → m ≡ wait C k b p → n ≡ asked C k b (r ∷ p) → max m n ≡ wait C k b (r ∷ p)
      raised k b x y = (λ i. max (x i) (y i)) ∙ sym (moves C k b r p)
