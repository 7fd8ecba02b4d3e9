-- Two broken ranks in a section of edition 2: counting its records leads where it leads.
-- Assumes nothing.
use Prim.Native.Nat.{ℕ, ◌+◌, ◌-◌, ◌/◌, ◌%◌, ◌≤◌}
use native.Mathlib.Omega.{arith}
use mathlib.Core.Bool.{Bool, true, false, cond, not, ◌&&◌, ◌||◌, true≢false}
use mathlib.Core.List.{List, map}
use mathlib.Core.Path.{◌≡◌, refl, sym, ap, ◌∙◌, subst}
use lib.Dec.{eqb}
use lib.ListN.{length, length-map}
use borrow.Author.Tests.{eq-eqb}
use Rattle.laws.proofs.Both.{both}
use Rattle.records.specs.Record.{records, has_zero, steps_of}
use Rattle.wide.specs.declared.Steps.{Steps}
use Rattle.wide.specs.Wide.{wides, rank_of, has_spare}
use Rattle.wide.specs.Moved.{narrow}
use Rattle.wide.specs.Steps.{steps_seen}
use Rattle.wide.specs.Promises.{StepsIn}
use Rattle.wide.proofs.Wides.{length-wides, rank-steps}
use Rattle.wide.proofs.Moving.{records-narrow}
use Rattle.wide.proofs.Stepping.{steps_all, steps-small}
use Rattle.chip.specs.declared.Chip.{Chip}
use Rattle.running.specs.Ranges.{limit, last_edge}
use Rattle.edges.specs.declared.Rank.{Rank}
use Rattle.edges.specs.Step.{later_of, fold_of}
use Rattle.edges.proofs.Ranging.{ranged}
use Rattle.edges.proofs.Stopped.{fold-stopped}
use Rattle.judge.specs.Pairs.{Pair}
use Rattle.judge.specs.Pairs.{Single}
use Rattle.std.specs.Prelude.{None}
use Rattle.judge.specs.declared.Pair.{Pair as Handed}
use Rattle.judge.specs.Pairs.{begun, pair_as, counts_of, pair_of, rank_in, counted_of, Took, Fit, Able, Ready, Alone}
use Rattle.judge.proofs.Folds.{fold_on}
use Rattle.judge.proofs.Pairs.{same-zero, first-able, second-able, took-zero, took-all}

rank-counted :
    (C : Chip) (second : Bool) (n : Rank) → (n.first.outcome ≡ 0 → ⊥) → (bs : List ℕ)
    → later_of n (steps_seen (wides bs)).sum (length bs / 8) ≡ fold_of C n (records (narrow second bs))
rank-counted C second n broken bs =
    (λ i. later_of n (sym (rank-steps second (wides bs)) i) (many i))
    ∙ sym (ap (fold_of C n) (records-narrow second bs) ∙ fold-stopped C n broken (map (rank_of second) (wides bs)))
  where
    many : length bs / 8 ≡ length (map (rank_of second) (wides bs))
    many = sym (length-map (wides bs) (rank_of second) ∙ length-wides bs)

pub counted-took :
    (C : Chip) (p : Pair) (bs : List ℕ) → (p.one.first.outcome ≡ 0 → ⊥) → (p.two.first.outcome ≡ 0 → ⊥)
    → (r : Pair) → r ≡ counted_of p bs → Took C p bs r
counted-took C p bs one two r e = record {
  zero = zero;
  after = λ none. e ∙ (λ i. record {
    zero = (sym (ap (λ (q : Pair). q.zero) e) ∙ none) i;
    spare = p.spare || has_spare (wides bs);
    one = rank-counted C false p.one one bs i;
    two = rank-counted C true p.two two bs i;
  });
}
  where
    zero : r.zero ≡ has_zero (records (narrow false bs))
    zero = ap (λ (q : Pair). q.zero) e ∙ ap has_zero (sym (records-narrow false bs))

-- the same, where none is handed back at a step of 0
pub counts-took :
    (C : Chip) (p : Handed) (bs : List ℕ) → (p.one.first.outcome ≡ 0 → ⊥) → (p.two.first.outcome ≡ 0 → ⊥)
    → (r : Pair) → r ≡ counts_of p bs → Took C (begun p) bs r
counts-took C p bs one two r e = go (steps_seen (wides bs)).zero refl e
  where
    go : (x : Bool) → (steps_seen (wides bs)).zero ≡ x → r ≡ cond x (pair_as p None) (counted_of (begun p) bs) → Took C (begun p) bs r
    go true z e = took-zero (ap (λ (q : Pair). q.zero) e) (ap has_zero (records-narrow false bs) ∙ z)
    go false z e = counted-took C (begun p) bs one two r e

-- by the tests of both
pub both-broken : (m n : ℕ) → not (eqb m 0) && not (eqb n 0) ≡ true → (m ≡ 0 → ⊥) × (n ≡ 0 → ⊥)
both-broken m n h =
    let w = both _ _ h in
    (λ z. true≢false (sym w.0 ∙ ap not (eq-eqb m 0 z)), λ z. true≢false (sym w.1 ∙ ap not (eq-eqb n 0 z)))

-- ── The sums ────────────────────────────────────────────────────────────────────────────────

module _ (bs : List ℕ) (eights : length bs % 8 ≡ 0) (s : Steps) (e : StepsIn bs s) where
  steps-are : (n : Rank) → Fit n bs → s ≡ steps_seen (wides bs)
  steps-are n f = e ∙ steps_all bs (omega (arith, f.room))

  pub later-fits : (n : Rank) → Fit n bs → (n.edge + s.sum ≤ last_edge) × (n.count + length bs / 8 ≤ limit)
  later-fits n f = (omega (arith, (ranged n f.range).edge, f.room, ap (λ (t : Steps). t.sum) (steps-are n f), steps-small bs), f.room)

  pub counted_is :
      (p : Pair) → Fit p.one bs → (one two : Rank) → one ≡ later_of p.one s.sum (length bs / 8) → two ≡ later_of p.two s.sum (length bs / 8)
      → pair_of s.zero (p.spare || s.spare) one two ≡ counted_of p bs
  counted_is p f one two a b =
      (λ i. pair_of s.zero (p.spare || s.spare) (a i) (b i))
      ∙ ap (λ (t : Steps). pair_of t.zero (p.spare || t.spare) (later_of p.one t.sum (length bs / 8)) (later_of p.two t.sum (length bs / 8))) (steps-are p.one f)

  -- none is handed back at a step of 0
  pub counts-zero : (p : Handed) → Fit p.one bs → s.zero ≡ true → pair_as p None ≡ counts_of p bs
  counts-zero p f z = rw (sym (ap (λ (t : Steps). t.zero) (steps-are p.one f)) ∙ z) refl

  pub counts_is :
      (p : Handed) → Fit p.one bs → s.zero ≡ false → (one two : Rank) → one ≡ later_of p.one s.sum (length bs / 8) → two ≡ later_of p.two s.sum (length bs / 8)
      → pair_of false (p.spare || s.spare) one two ≡ counts_of p bs
  counts_is p f z one two a b =
      ap (λ x. pair_of x (p.spare || s.spare) one two) (sym z) ∙ counted_is (begun p) f one two a b
      ∙ rw (sym (ap (λ (t : Steps). t.zero) (steps-are p.one f)) ∙ z) refl

-- ── A broken rank beside one that is judged ─────────────────────────────────────────────────

-- both ranks have the same steps
pub any-zero : (second : Bool) (bs : List ℕ) → has_zero (records (narrow second bs)) ≡ has_zero (records (narrow false bs))
any-zero true bs = same-zero bs
any-zero false bs = refl

pub able-in : {C : Chip} {p : Pair} {bs : List ℕ} → Ready C p bs → (second : Bool) (n : Rank) → n ≡ rank_in p second → Able C n bs
able-in {C} {p} {bs} r second n e = subst (λ (m : Rank). Able C m bs) (sym e) (go second)
  where
    go : (second : Bool) → Able C (rank_in p second) bs
    go true = second-able r
    go false = first-able r

module _ (C : Chip) (second : Bool) (m k : Rank) (bs : List ℕ) (e : k ≡ fold_of C m (records (narrow second bs))) where
  pub gone : k.edge ≡ m.edge + (steps_seen (wides bs)).sum
  gone =
      ap (λ (n : Rank). n.edge) e ∙ (fold_on C m (records (narrow second bs))).0
      ∙ ap (λ (s : ℕ). m.edge + s) (ap steps_of (records-narrow second bs) ∙ rank-steps second (wides bs))

  -- the other goes as far
  pub beside-fits : (n : Rank) → Able C n bs → (n.edge + (k.edge - m.edge) ≤ last_edge) × (n.count + length bs / 8 ≤ limit)
  beside-fits n a = (omega (arith, (ranged n a.fit.range).edge, a.fit.room, gone, steps-small bs), a.fit.room)

  pub caught-up : (other : Bool) (n : Rank) → (n.first.outcome ≡ 0 → ⊥) → (x : Rank) → x ≡ later_of n (k.edge - m.edge) (length bs / 8)
      → x ≡ fold_of C n (records (narrow other bs))
  caught-up other n broken x is =
      let sum : k.edge - m.edge ≡ (steps_seen (wides bs)).sum = omega (arith, gone) in
      is ∙ ap (λ (s : ℕ). later_of n s (length bs / 8)) sum ∙ rank-counted C other n broken bs

module _ {C : Chip} (p : Pair) {bs : List ℕ} (second : Bool) {judged other on : Rank} {r : Single} (a : Alone C second judged bs r) (none : r.zero ≡ false)
    (is : judged ≡ rank_in p second) (was : other ≡ rank_in p (not second)) (broken : (rank_in p (not second)).first.outcome ≡ 0 → ⊥)
    (so : on ≡ later_of other (r.rank.edge - judged.edge) (length bs / 8)) where
  after_is : r.rank ≡ fold_of C (rank_in p second) (records (narrow second bs))
  after_is = a.after none ∙ ap (λ (n : Rank). fold_of C n (records (narrow second bs))) is

  on-is : (x : Bool) → on ≡ fold_of C (rank_in p (not second)) (records (narrow x bs))
  on-is x =
      caught-up C second judged r.rank bs (a.after none) x other (λ z. broken (ap (λ (n : Rank). n.first.outcome) (sym was) ∙ z)) on so
      ∙ ap (λ (n : Rank). fold_of C n (records (narrow x bs))) was

  pub beside-took : (q : Pair) → q ≡ pair_of false (p.spare || r.spare) (cond second on r.rank) (cond second r.rank on) → Took C p bs q
  beside-took q e =
      took-all e (sym (any-zero second bs) ∙ sym a.zero ∙ none) (a.seen none) (go second (after_is) (on-is false)) (go' second (after_is) (on-is true))
    where
      go : (x : Bool) → r.rank ≡ fold_of C (rank_in p x) (records (narrow x bs)) → on ≡ fold_of C (rank_in p (not x)) (records (narrow false bs))
          → cond x on r.rank ≡ fold_of C p.one (records (narrow false bs))
      go true after other = other
      go false after other = after

      go' : (x : Bool) → r.rank ≡ fold_of C (rank_in p x) (records (narrow x bs)) → on ≡ fold_of C (rank_in p (not x)) (records (narrow true bs))
          → cond x r.rank on ≡ fold_of C p.two (records (narrow true bs))
      go' true after other = after
      go' false after other = other
