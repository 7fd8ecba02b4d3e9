-- Rules 24, 25, 28 and 31 over a gap and at a record's edge, by the summary: the deadlines are those of the rules' summary.
-- Assumes nothing.
use Prim.Native.Nat.{ℕ, zero, suc, ◌+◌, ◌-◌, ◌*◌, ◌/◌, ◌%◌, ◌≤◌, ◌<◌}
use native.Mathlib.Nat.{add-mul, mod-lt, le-div_iff_mul-le}
use native.Mathlib.Omega.{arith}
use mathlib.Core.Path.{◌≡◌, refl, sym, ap, ◌∙◌}
use mathlib.Core.Logic.{⊎_elim}
use mathlib.Core.Bool.{Bool, true, false, cond, not, ◌&&◌}
use mathlib.Core.List.{List, ◌∷◌}
use lib.Dec.{leb, ltb}
use lib.ListN.{get_or}
use borrow.Author.Tests.{leb-true, leb-false, le-leb, lt-leb}
use Rattle.laws.specs.Eight.{table}
use Rattle.laws.proofs.Eight.{get_or-table, table-ext}
use Rattle.answers.specs.declared.Break.TheVariants.{Fine, Broken}
use Rattle.records.specs.declared.Record.{Record}
use Rattle.records.specs.declared.Command.TheVariants.{Ref}
use Rattle.chip.specs.declared.Chip.{Chip}
use Rattle.running.specs.declared.Late.{Late}
use Rattle.running.specs.Marks.{empty}
use Rattle.running.specs.Next.{due}
use Rattle.running.specs.Late.{better, soonest, why, late_by}
use Rattle.running.specs.Deadlines as running
use Rattle.edges.specs.Views.{kept_of}
use Rattle.edges.specs.Says.{dues_of, next24, next25, next28, next31, soonest_of, owing}
use Rattle.rules.specs.Past.{Past, edge, number, cke, asleep, command, is, latest}
use Rattle.rules.specs.Banks.{act_on}
use Rattle.rules.specs.Deadlines.{awake_to, owed_to}
use Rattle.rules.specs.Down.{turned, down}
use Rattle.rules.proofs.Generic.{decide}
use Rattle.rules.proofs.Clean.{Clean}
use Rattle.rules.proofs.Down.{down_is}
use Rattle.rules.proofs.Debts as debts
use Rattle.rules.proofs.Debts.{gap_to, reaches, ahead, owed-step}
use Rattle.rules.proofs.Dominate.{need4}
use Rattle.rules.proofs.Summary as rules
use Rattle.rules.proofs.Summary.{mark-at, kept, rests, shared}
use Rattle.rules.proofs.Status.{mark-num}
use Rattle.rules.proofs.Gap.{Due, now24, now25, now28, now31, now_any, due24, due25, due28, due31, due-both}
use Rattle.carries.proofs.Summary.{clocks_left, gap_left, debt_of, banks_of, device_of}
use Rattle.carries.proofs.Views.{kept-view}

-- ── Rule 24 ─────────────────────────────────────────────────────────────────────────────────

-- the bank that is picked is one of the eight
bank-picked : (ds : List ℕ) (lo hi n : ℕ) → n ≤ 8 → (soonest ds lo hi n).bank < 8
unfolding soonest better
bank-picked ds lo hi zero l = omega arith
bank-picked ds lo hi (suc n) l = go (ltb lo (get_or ds n 0) && ltb (get_or ds n 0) (soonest ds lo hi n).at) (bank-picked ds lo hi n (omega arith))
  where
    go : (x : Bool) → (soonest ds lo hi n).bank < 8 → (cond x (record { at = get_or ds n 0; bank = n }) (soonest ds lo hi n)).bank < 8
    go true k = omega arith
    go false k = k

module _ (C : Chip) (p : Past) where
  dues-view : dues_of C (banks_of C p) ≡ table (λ b. due C (kept C p b))
  unfolding dues_of
  dues-view = table-ext (λ b. due C (kept_of C (banks_of C p) b)) (λ b. due C (kept C p b)) (λ b l. ap (due C) (kept-view C p b l))

  act-number : (b : ℕ) → b < 8 → get_or (banks_of C p).actno b 0 ≡ (get_or (table (kept C p)) b empty).acted.num
  unfolding banks_of kept
  act-number b l =
      get_or-table (λ b. number (latest (act_on b) p)) b 0 l
      ∙ sym (mark-num (need4 C) (latest (act_on b) p))
      ∙ sym (ap (λ k. k.acted.num) (get_or-table (kept C p) b empty l))

  pub next24-is : (hi : ℕ) → next24 C (banks_of C p) (edge p) hi ≡ running.next24 C (rules.summary C p) hi
  unfolding next24 running.next24 rules.summary
  next24-is hi =
      ap (λ ds. late_by 24 (soonest ds (edge p) hi 8).at (get_or (banks_of C p).actno (soonest ds (edge p) hi 8).bank 0) C.most) dues-view
      ∙ ap (λ n. late_by 24 (soonest ds (edge p) hi 8).at n C.most) (act-number (soonest ds (edge p) hi 8).bank (bank-picked ds (edge p) hi 8 (omega arith)))
    where
      ds : List ℕ
      ds = table (λ b. due C (kept C p b))

  -- ── Rule 25 ───────────────────────────────────────────────────────────────────────────────

  abbrev pub ref : ℕ
  ref = number (latest (is Ref) p)

  -- where the part is awake x clocks are counted from the latest record
  from-edge : (s : Bool) (hi x : ℕ) → cond s hi (cond s 0 (edge p) + x) ≡ cond s hi (edge p + x)
  from-edge true hi x = refl
  from-edge false hi x = refl

  pub next25-is : (hi : ℕ) → next25 (debt_of C p) ref hi ≡ running.next25 C (rules.summary C p) hi
  unfolding running.next25 rules.summary shared rests debts.debt_of debt_of clocks_left
  next25-is hi = rw (mark-num (λ _. C.trfc) (latest (is Ref) p)) (ap late (from-edge (asleep p) hi ((17 - owed_to C.trefi p) * C.trefi - awake_to p % C.trefi)))
    where
      late : ℕ → Late
      late t = record { at = t; rule = 25; partner = ref; needed = 8; found = 9 }

  -- ── Rule 28 ───────────────────────────────────────────────────────────────────────────────

  abbrev pub in28 : (hi : ℕ) → Late
  in28 hi = next28 C (cke p) (asleep p) (device_of C p) hi

  pub next28-is : (hi : ℕ) → next28 C (cke p) (asleep p) (device_of C p) hi ≡ running.next28 C (rules.summary C p) hi
  unfolding running.next28 rules.summary shared rests debts.debt_of device_of
  next28-is hi = rw (mark-num (λ _. C.tcke) (turned p), mark-at (λ _. C.tcke) (turned p))

  -- ── Rule 31 ───────────────────────────────────────────────────────────────────────────────

  abbrev pub in31 : (hi : ℕ) → Late
  in31 hi = next31 C (debt_of C p) ref hi

  pub next31-is : (hi : ℕ) → next31 C (debt_of C p) ref hi ≡ running.next31 C (rules.summary C p) hi
  unfolding running.next31 rules.summary shared rests debts.debt_of debt_of gap_left
  next31-is hi = rw (mark-num (λ _. C.trfc) (latest (is Ref) p)) (ap (λ u. late_by 31 u ref C.nine) (from-edge (asleep p) hi (C.nine + 1 - gap_to p)))

  module _ (pos : 0 < C.trefi) (small : owed_to C.trefi p ≤ 16) where
    -- all four, by number
    pub due-next : Clean C p → (down p ≡ true → edge p ≤ edge (turned p) + C.nine) → gap_to p ≤ C.nine → (hi : ℕ)
        → Due (now_any C p) (edge p) hi (soonest_of (next24 C (banks_of C p) (edge p) hi) (next25 (debt_of C p) ref hi) (in28 hi) (in31 hi))
    due-next h near close hi =
        rw (next24-is hi, next25-is hi, next28-is hi, next31-is hi)
        (due-both (now24 C p) _ (edge p) hi (running.next24 C (rules.summary C p) hi) _ (due24 C p hi)
        (due-both (now25 C p) _ (edge p) hi (running.next25 C (rules.summary C p) hi) _ (due25 C p pos small hi)
        (due-both (now28 C p) (now31 C p) (edge p) hi (running.next28 C (rules.summary C p) hi) (running.next31 C (rules.summary C p) hi) (due28 C p (down_is C p h) near hi) (due31 C p close hi))))

    -- at a record's edge, up to which no deadline passed: what is owed after the record
    abbrev T : ℕ
    T = C.trefi

    abbrev o : ℕ
    o = owed_to T p

    abbrev f : ℕ
    f = awake_to p % T

    abbrev at25 : (s : Bool) (hi : ℕ) → Late
    at25 s hi = record { at = cond s hi (cond s 0 (edge p) + ((17 - o) * T - f)); rule = 25; partner = ref; needed = 8; found = 9 }

    far : f < (17 - o) * T
    far = ahead pos o f small (mod-lt (awake_to p) pos)

    -- x clocks that do not reach 17
    below : (x n m : ℕ) → f + x < (17 - o) * T → n ≤ o + (f + x) / T → running.owing n m ≡ Fine
    below x n m l k = rw (lt-leb 17 n (omega (arith, not_yet)))
      where
        not_yet : ¬ (17 ≤ o + (f + x) / T)
        not_yet g = omega (arith, (reaches pos o f x small).0 g)

    -- x clocks that reach 17 at most, of which a REF pays one
    just : (x m : ℕ) → f + x ≤ (17 - o) * T → running.owing (o + (f + x) / T - 1) m ≡ Fine
    just x m l = rw (lt-leb 17 (o + (f + x) / T - 1) (omega (arith, not_more)))
      where
        not_more : ¬ (18 ≤ o + (f + x) / T)
        not_more g =
            let e : 18 - o ≡ 17 - o + 1 = omega arith in
            let k : (18 - o) * T ≡ (17 - o) * T + 1 * T = ap (λ n. n * T) e ∙ add-mul (17 - o) 1 T in
            let w : (18 - o) * T ≤ f + x = (le-div_iff_mul-le {x = 18 - o} pos).0 (omega arith) in
            omega arith

    owing-by : (x : ℕ) (s c : Bool) (m : ℕ) → (c ≡ false → ref ≡ m) → edge p + x ≤ (at25 s (edge p + x + 1)).at
        → cond (leb (at25 s (edge p + x + 1)).at (edge p + x) && not c) (why (at25 s (edge p + x + 1))) Fine
        ≡ running.owing (o + (f + cond s 0 x) / T - cond c 1 0) m
    owing-by x true c m h l =
        rw (lt-leb (edge p + x + 1) (edge p + x) (omega arith)) (sym (below 0 (o + (f + 0) / T - cond c 1 0) m (omega (arith, far)) (omega arith)))
    owing-by x false true m h l =
        no (leb (edge p + ((17 - o) * T - f)) (edge p + x)) ∙ sym (just x m (omega (arith, far)))
      where
        no : (b : Bool) → cond (b && false) (why (at25 false (edge p + x + 1))) Fine ≡ Fine
        no true = refl
        no false = refl
    owing-by x false false m h l = ⊎_elim
        (λ (y : leb (edge p + ((17 - o) * T - f)) (edge p + x) ≡ true).
        let k = leb-true (edge p + ((17 - o) * T - f)) (edge p + x) y in
        rw (y, le-leb 17 (o + (f + x) / T - 0) (omega (arith, (reaches pos o f x small).1 (omega (arith, far))))) (λ i. Broken 25 (h refl i) 8 9))
        (λ (n : leb (edge p + ((17 - o) * T - f)) (edge p + x) ≡ false).
        let k = leb-false (edge p + ((17 - o) * T - f)) (edge p + x) n in
        rw n (sym (below x (o + (f + x) / T - 0) m (omega arith) (omega arith))))
        (decide (leb (edge p + ((17 - o) * T - f)) (edge p + x)))

    pub owing-is : (r : Record) → edge (r ∷ p) ≤ (next25 (debt_of C p) ref (edge (r ∷ p) + 1)).at
        → owing (command (r ∷ p)) (edge (r ∷ p)) (next25 (debt_of C p) ref (edge (r ∷ p) + 1))
        ≡ running.owing (owed_to C.trefi (r ∷ p)) (number (latest (is Ref) (r ∷ p)))
    unfolding debt_of clocks_left
    owing-is r l =
        owing-by r.step (asleep p) (is Ref (r ∷ p)) (number (latest (is Ref) (r ∷ p))) (λ z. rw z) l
        ∙ ap (λ n. running.owing n (number (latest (is Ref) (r ∷ p)))) (owed-step pos r p)
