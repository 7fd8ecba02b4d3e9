-- The ranges of check 17 as facts, and that a record keeps them.
-- Assumes nothing.
use Prim.Native.Nat.{ℕ, zero, suc, ◌+◌, ◌*◌, ◌-◌, ◌/◌, ◌%◌, ◌≤◌, ◌<◌}
use native.Mathlib.Omega.{arith}
use native.Mathlib.Decide.{ℕ_discrete}
use mathlib.Core.Bool.{Bool, true, false, cond, ◌&&◌, ◌||◌}
use mathlib.Core.List.{List}
use mathlib.Core.Path.{◌≡◌, refl, sym, subst}
use lib.Dec.{leb, ltb}
use lib.ListN.{get_or, length}
use borrow.Author.Tests.{leb-true, ltb-true, ltb-false, le-leb, le-ltb, eq-eqb}
use Rattle.laws.proofs.Eight.{at_set}
use Rattle.answers.specs.declared.Break.{Break}
use Rattle.answers.specs.declared.Break.TheVariants.{Fine, Broken}
use Rattle.answers.specs.declared.Verdict.{Verdict}
use Rattle.records.specs.declared.Record.{Record}
use Rattle.records.specs.declared.Command.{Command}
use Rattle.records.specs.declared.Command.TheVariants.{Mrs, Ref, Act, Zq, Sre, Srx, Pdx}
use Rattle.records.specs.Command.{is_a, bank_in}
use Rattle.records.specs.Record.{records, has_zero}
use Rattle.chip.specs.declared.Chip.{Chip}
use Rattle.running.specs.declared.Late.{Late}
use Rattle.running.specs.Late.{why}
use Rattle.running.specs.Next.{changing, resets_now}
use Rattle.running.specs.Said.{is_clean, first, verdict_at, late_at}
use Rattle.running.specs.Ranges.{limit, last_edge, counted, Small}
use Rattle.laws.proofs.Both.{both}
use Rattle.running.proofs.Ranging.{small-test}
use Rattle.edges.specs.declared.Debt.{Debt}
use Rattle.edges.specs.declared.Rank.{Rank}
use Rattle.edges.specs.Next.{set_if, counting, paid, woken, stamped, turned_to, slow_now, device_next, debt_next, banks_next, acts_next}
use Rattle.edges.specs.Views.{REF, MRS, ZQ, SRE, SRX, DLL, CKE, PDX, SLOW}
use Rattle.edges.specs.Says.{soonest_of, command_in, says_by, says_of}
use Rattle.edges.specs.Step.{moved_of, stopped_of, step_of, fold_of}
use Rattle.edges.specs.Ranges.{edges_ok, farthest, Near, rank_in_range, Ranged}
use Rattle.edges.specs.Ends.{taken_of, end_of, ended_of}

-- ── The test and the facts ──────────────────────────────────────────────────────────────────

edges_at : (xs : List ℕ) (n : ℕ) → edges_ok xs n ≡ true → (b : ℕ) → b < n → get_or xs b 0 ≤ last_edge
unfolding edges_ok
edges_at xs zero h b l = absurd (omega arith)
edges_at xs (suc n) h b l =
    let w = both (edges_ok xs n) (leb (get_or xs n 0) last_edge) h in
    elim (ℕ_discrete b n) [
      | yes e ↦ subst (λ (m : ℕ). get_or xs m 0 ≤ last_edge) (sym e) (leb-true _ _ w.1)
      | no e ↦ edges_at xs n w.0 b (omega arith)
    ]

edges-ok : (xs : List ℕ) (n : ℕ) → ((b : ℕ) → b < n → get_or xs b 0 ≤ last_edge) → edges_ok xs n ≡ true
unfolding edges_ok
edges-ok xs zero h = refl
edges-ok xs (suc n) h = rw (edges-ok xs n (λ b l. h b (omega arith)), le-leb (get_or xs n 0) last_edge (h n (omega arith)))

count-facts : (count edge : ℕ) → counted count edge ≡ true → (count ≤ limit) × (edge ≤ count * 16777216)
count-facts count edge h = go (ltb limit count) refl h
  where
    go : (x : Bool) → ltb limit count ≡ x → cond x false (leb edge (count * 16777216)) ≡ true → (count ≤ limit) × (edge ≤ count * 16777216)
    go true e z = let n : ◌≡◌ {A = ℕ} 0 1 = cc in absurd (omega arith)
    go false e z = (ltb-false _ _ e, leb-true _ _ z)

pub ranged : (s : Rank) → rank_in_range s ≡ true → Ranged s
unfolding rank_in_range
ranged s h =
    let a = both _ _ h in
    let n = count-facts s.count s.edge a.0 in
    let d = both _ _ a.1 in
    let t = both _ _ d.1 in
    let f = both _ _ t.1 in
    let k = both _ _ f.1 in
    let b = both _ _ k.1 in
    record {
      edge = n.1;
      count = n.0;
      debt = let w = both _ _ d.0 in (leb-true _ _ w.0, leb-true _ _ w.1);
      turn = leb-true _ _ t.0;
      broke = leb-true _ _ f.0;
      turned = leb-true _ _ k.0;
      acted = edges_at s.banks.actat 8 b.0;
      ring = edges_at s.acts.at 4 b.1;
    }

pub in-range : (s : Rank) → Ranged s → rank_in_range s ≡ true
unfolding rank_in_range
in-range s r =
    rw (
      le-ltb limit s.count r.count,
      le-leb s.edge (s.count * 16777216) r.edge,
      le-leb (s.debt.due - counting s.debt s.edge) farthest r.debt.0,
      le-leb (s.debt.gap - counting s.debt s.edge) farthest r.debt.1,
      le-leb s.acts.turn 3 r.turn,
      le-leb s.first.edge last_edge r.broke,
      le-leb (get_or s.device.at CKE 0) last_edge r.turned,
      edges-ok s.banks.actat 8 r.acted,
      edges-ok s.acts.at 4 r.ring,
    )

-- ── What is said is said of an edge up to the record's ──────────────────────────────────────

told-edge : (e n : ℕ) (b : Break) → (verdict_at e n b).edge ≤ e
told-edge e n Fine = omega arith
told-edge e n (Broken k p m f) = omega arith

first_edge : (e : ℕ) (v w : Verdict) → v.edge ≤ e → w.edge ≤ e → (first v w).edge ≤ e
first_edge e v w a b = go (is_clean v)
  where
    go : (x : Bool) → (cond x w v).edge ≤ e
    go true = b
    go false = a

says-edge : (e n : ℕ) (x24 x25 x28 x31 : Late) (b o d f : Break) → (says_by e n x24 x25 x28 x31 b o d f).edge ≤ e
unfolding says_by
says-edge e n x24 x25 x28 x31 b o d f = before (soonest_of x24 x25 x28 x31) (ltb (soonest_of x24 x25 x28 x31).at e) refl
  where
    before : (soon : Late) (x : Bool) → ltb soon.at e ≡ x
        → (cond x (verdict_at soon.at 0 (why soon))
        (first (verdict_at e n b) (first (verdict_at e 0 (late_at e x24)) (first (verdict_at e 0 o)
        (first (verdict_at e n d) (first (verdict_at e 0 (late_at e x28)) (first (verdict_at e n f) (verdict_at e 0 (late_at e x31))))))))).edge ≤ e
    before soon true z = omega (arith, ltb-true soon.at e z)
    before soon false z =
        first_edge e (verdict_at e n b) _ (told-edge e n b)
        (first_edge e (verdict_at e 0 (late_at e x24)) _ (told-edge e 0 (late_at e x24))
        (first_edge e (verdict_at e 0 o) _ (told-edge e 0 o)
        (first_edge e (verdict_at e n d) _ (told-edge e n d)
        (first_edge e (verdict_at e 0 (late_at e x28)) _ (told-edge e 0 (late_at e x28))
        (first_edge e (verdict_at e n f) _ (told-edge e n f) (told-edge e 0 (late_at e x31)))))))

said-edge : (C : Chip) (s : Rank) (r : Record) → (says_of C s r).edge ≤ s.edge + r.step
unfolding says_of
said-edge C s r = says-edge _ _ _ _ _ _ _ _ _ _

-- ── A record keeps the ranges ───────────────────────────────────────────────────────────────

-- an edge that is stored, or not
stored : (x : Bool) (xs : List ℕ) (i e b : ℕ) → e ≤ last_edge → get_or xs b 0 ≤ last_edge → get_or (set_if x xs i e) b 0 ≤ last_edge
stored true xs i e b l m = at_set (λ n. n ≤ last_edge) 0 xs i e b l m
stored false xs i e b l m = m

turned : (x : Bool) (n : ℕ) → n ≤ 3 → cond x ((n + 1) % 4) n ≤ 3
turned true n l = omega arith
turned false n l = l

-- the latest change of CKE is not after the record
pub change-near : (c : Command) (r : Record) (slow : Bool) (xs : List ℕ) (e : ℕ) → e ≤ last_edge → get_or xs CKE 0 ≤ last_edge
    → get_or (turned_to c slow (stamped c r xs e e e e e e) e e e) CKE 0 ≤ last_edge
change-near c r slow xs e l m =
    let x1 = set_if (is_a Ref c) xs REF e in
    let x2 = set_if (is_a Mrs c) x1 MRS e in
    let x3 = set_if (is_a Zq c) x2 ZQ e in
    let x4 = set_if (is_a Sre c) x3 SRE e in
    let x5 = set_if (is_a Srx c) x4 SRX e in
    let x6 = set_if (resets_now c r) x5 DLL e in
    let x7 = set_if (changing c) x6 CKE e in
    let x8 = set_if (is_a Pdx c) x7 PDX e in
    stored (is_a Pdx c && slow) x8 SLOW e CKE l
    (stored (is_a Pdx c) x7 PDX e CKE l
    (stored (changing c) x6 CKE e CKE l
    (stored (resets_now c r) x5 DLL e CKE l
    (stored (is_a Srx c) x4 SRX e CKE l
    (stored (is_a Sre c) x3 SRE e CKE l
    (stored (is_a Zq c) x2 ZQ e CKE l
    (stored (is_a Mrs c) x1 MRS e CKE l
    (stored (is_a Ref c) xs REF e CKE l m))))))))

module _ (C : Chip) (small : Small C) where
  paid-near : (e d : ℕ) → d - e ≤ farthest → paid C.trefi e d - e ≤ farthest
  paid-near e d l = go (leb d (e + 16 * C.trefi)) refl
    where
      go : (x : Bool) → leb d (e + 16 * C.trefi) ≡ x → cond x (d + C.trefi) d - e ≤ farthest
      go true z = omega (arith, leb-true d (e + 16 * C.trefi) z, small.trefi)
      go false z = l

  -- an edge of the debt behind an SRX
  woken-near : (x : Bool) (e d : ℕ) → d - cond x 0 e ≤ farthest → d + cond x e 0 - e ≤ farthest
  woken-near true e d l = omega (arith, l)
  woken-near false e d l = omega (arith, l)

  debt-near : (c : Command) (e : ℕ) (D : Debt) → Near e D → Near e (debt_next C c e D)
  unfolding debt_next
  debt-near c e D l = go (is_a Ref c) (is_a Sre c) (is_a Srx c)
    where
      due : ℕ
      due = paid C.trefi (counting D e) D.due

      gap : ℕ
      gap = counting D e + C.nine + 1

      by : (x y z : Bool) → Debt
      by x y z =
          cond x (record { sleeps = D.sleeps; due = due; gap = gap })
          (cond y (record { sleeps = true; due = D.due - counting D e; gap = D.gap - counting D e })
          (cond z (record { sleeps = false; due = D.due + woken D e; gap = D.gap + woken D e }) D))

      go : (x y z : Bool) → Near e (by x y z)
      go true y z = (paid-near (counting D e) D.due l.0, omega (arith, small.nine))
      go false true z = (omega (arith, l.0), omega (arith, l.1))
      go false false true = (woken-near D.sleeps e D.due l.0, woken-near D.sleeps e D.gap l.1)
      go false false false = l

  -- what one more record leaves
  abbrev Goes : Rank → Rank → Type 0
  Goes s m = Ranged m × (m.count ≡ s.count + 1)

  module _ (s : Rank) (r : Record) (range : Ranged s) (room : s.count + 1 ≤ limit) (short : r.step ≤ 16777216) where
    -- a later edge leaves no more clocks
    later : Near (s.edge + r.step) s.debt
    later = (go s.debt.due s.debt.sleeps range.debt.0, go s.debt.gap s.debt.sleeps range.debt.1)
      where
        go : (d : ℕ) (x : Bool) → d - cond x 0 s.edge ≤ farthest → d - cond x 0 (s.edge + r.step) ≤ farthest
        go d true l = l
        go d false l = omega arith

    stopped_goes : (v : Verdict) → v.edge ≤ last_edge → Goes s (stopped_of s r v)
    unfolding stopped_of
    stopped_goes v l = (
      record {
        edge = omega (arith, range.edge);
        count = room;
        debt = later;
        turn = range.turn;
        broke = l;
        turned = range.turned;
        acted = range.acted;
        ring = range.ring;
      },
      refl,
    )

    moved-goes : Goes s (moved_of C s r)
    unfolding moved_of banks_next acts_next device_next
    moved-goes = (
      record {
        edge = omega (arith, range.edge);
        count = room;
        debt = debt-near (command_in s r) (s.edge + r.step) s.debt later;
        turn = turned (is_a Act (command_in s r)) s.acts.turn range.turn;
        broke = range.broke;
        turned = change-near (command_in s r) r (slow_now s.banks s.device) s.device.at (s.edge + r.step) (omega (arith, range.edge)) range.turned;
        acted = λ b l. stored (is_a Act (command_in s r)) s.banks.actat (bank_in r) (s.edge + r.step) b (omega (arith, range.edge)) (range.acted b l);
        ring = λ i l. stored (is_a Act (command_in s r)) s.acts.at s.acts.turn (s.edge + r.step) i (omega (arith, range.edge)) (range.ring i l);
      },
      refl,
    )

    pub step-goes : Goes s (step_of C s r)
    unfolding step_of
    step-goes = go (is_clean s.first) (is_clean (says_of C s r))
      where
        go : (x y : Bool) → Goes s (cond x (cond y (moved_of C s r) (stopped_of s r (says_of C s r))) (stopped_of s r s.first))
        go true true = moved-goes
        go true false = stopped_goes (says_of C s r) (omega (arith, said-edge C s r, range.edge))
        go false y = stopped_goes s.first range.broke

-- ── Where no sum can wrap, a rank takes its records and has an end ──────────────────────────

module _ (C : Chip) (small : Small C) (n : Rank) (range : rank_in_range n ≡ true) where
  pub taken-folds :
      (bs : List ℕ) → length bs % 6 ≡ 0 → n.count + length bs / 6 ≤ limit
      → taken_of C n bs
      ≡ cond (has_zero (records bs)) (record { zero = true; rank = n }) (record { zero = false; rank = fold_of C n (records bs) })
  unfolding taken_of
  taken-folds bs sixes room = rw (eq-eqb _ _ sixes, le-ltb _ _ room, range, small-test C small)

  pub ended-ends : (t : ℕ) → ltb t n.edge || ltb last_edge t ≡ false → ended_of C n t ≡ end_of C n t
  unfolding ended_of
  ended-ends t within = rw (small-test C small, range, within)
