-- A lane, then a record by the marks, and again.
-- Assumes nothing.
use Prim.Native.Nat.{ℕ}
use native.Mathlib.Omega.{arith}
use mathlib.Core.List.{List}
use mathlib.Core.Path.{refl, ◌∙◌}
use borrow.Author.Rules.{rules}
use Rattle.chip.specs.declared.Chip.{Chip}
use Rattle.edges.specs.declared.Rank.{Rank}
use Rattle.edges.specs.Folding.{Reached}
use Rattle.edges.proofs.Folding.{Whole, answer-from, answer-end, answer-zero}
use Rattle.edges.proofs.Reaching.{reached-start, reached-self, reached-also, reached-ranged, reached-whole, reached-short, reached-room, step-along, step-counting, step-reached}
use Rattle.rank.proofs.fold.fold.Goals as goal

stood-on : {C : Chip} {bytes : List ℕ} {s m n : Rank} {at at' : ℕ} → Reached C bytes s 0 m at → Reached C bytes m at n at' → Reached C bytes s 0 n at'
stood-on f g = reached-also _ _ _ _ _ _ _ _ f g

pub loop-at-init : goal.loop-at-init
loop-at-init c =
    let banks = c.well_formed.1.0.1.1.1.1.1.1.1.0 in let waits = c.well_formed.1.0.1.1.1.1.1.1.1.1.0 in let acts = c.well_formed.1.0.1.1.1.1.1.1.1.1.1.0 in
    let whole : Whole c.args.s = record {
      track = record {
        act = search (rules, waits.1.1.0);
        col = search (rules, waits.1.1.1.0);
        pre = search (rules, waits.1.1.1.1.0);
        acted = search (rules, banks.1.1.0);
        num = search (rules, banks.1.1.1.0);
        shut = search (rules, banks.1.1.1.1.1.1.1.1.1.1.1.0);
        by = search (rules, banks.1.1.1.1.1.1.1.1.1.1.1.1.0);
        ring = search (rules, acts.1.1.0);
      };
      holds = search (rules, waits.1.1.1.1.1.0);
    } in
    rw c.of-lane.ensures (record { floored = refl; reached = reached-start _ _ _ c.requires whole c.if-s-ne0.false })

pub run_on-at-requires-clause-reached : goal.run_on-at-requires-clause-reached
run_on-at-requires-clause-reached c = reached-self _ _ _ _ _ _ c.loop-at.invariant.reached

pub returns-then-bytes-at : goal.returns-then-bytes-at
returns-then-bytes-at c =
    let now = stood-on c.loop-at.invariant.reached c.run_on-at.ensures.goes_on in
    answer-end _ _ _ _ _ now.along (omega (arith, c.if-bytes-at.true))

pub returns-then-r-eq0 : goal.returns-then-r-eq0
returns-then-r-eq0 c =
    let now = stood-on c.loop-at.invariant.reached c.run_on-at.ensures.goes_on in
    let more = c.if-bytes-at.false in let r = c.record_at-r in
    answer-zero _ _ _ _ _ r.result now.along (reached-whole _ _ _ _ _ _ now more r.result r.ensures) r.ensures c.if-r-eq0.true

pub counted-requires-then-lane-ne0 : goal.counted-requires-then-lane-ne0
counted-requires-then-lane-ne0 c =
    let now = stood-on c.loop-at.invariant.reached c.run_on-at.ensures.goes_on in
    let more = c.if-bytes-at.false in let r = c.record_at-r in
    step-counting _ _ _ _ _ _ now more r.result r.ensures c.if-r-eq0.false c.step-lane.result c.step-lane.ensures c.if-lane-ne0.true

pub returns-then-lane-ne0 : goal.returns-then-lane-ne0
returns-then-lane-ne0 c =
    let now = stood-on c.loop-at.invariant.reached c.run_on-at.ensures.goes_on in
    let more = c.if-bytes-at.false in let r = c.record_at-r in
    c.counted-then-lane-ne0.ensures _ _ ∙ answer-from _ _ _ _ _ (step-along _ _ _ _ _ _ now more r.result r.ensures c.if-r-eq0.false c.step-lane.result c.step-lane.ensures)

pub step-lane-requires-clause-ranged : goal.step-lane-requires-clause-ranged
step-lane-requires-clause-ranged c =
    let now = stood-on c.loop-at.invariant.reached c.run_on-at.ensures.goes_on in
    reached-ranged _ _ _ _ _ _ now

pub step-lane-requires-clause-step_bound : goal.step-lane-requires-clause-step_bound
step-lane-requires-clause-step_bound c =
    let now = stood-on c.loop-at.invariant.reached c.run_on-at.ensures.goes_on in
    let more = c.if-bytes-at.false in let r = c.record_at-r in
    reached-short _ _ _ _ _ _ now more r.result r.ensures

pub step-lane-requires-clause-count_bound : goal.step-lane-requires-clause-count_bound
step-lane-requires-clause-count_bound c =
    let now = stood-on c.loop-at.invariant.reached c.run_on-at.ensures.goes_on in
    let more = c.if-bytes-at.false in let r = c.record_at-r in
    reached-room _ _ _ _ _ _ now more r.result r.ensures

pub loop-at-smaller : goal.loop-at-smaller
loop-at-smaller c = omega (arith, c.run_on-at.ensures.goes_on.later, c.if-bytes-at.false)

pub loop-at-preserved : goal.loop-at-preserved
loop-at-preserved c =
    let now = stood-on c.loop-at.invariant.reached c.run_on-at.ensures.goes_on in
    let more = c.if-bytes-at.false in let r = c.record_at-r in
    let banks = c.step-lane.type_inv.1.1.1.1.1.1.1.0 in let waits = c.step-lane.type_inv.1.1.1.1.1.1.1.1.0 in let acts = c.step-lane.type_inv.1.1.1.1.1.1.1.1.1.0 in
    let whole : Whole c.step-lane.result = record {
      track = record {
        act = search (rules, waits.1.1.0);
        col = search (rules, waits.1.1.1.0);
        pre = search (rules, waits.1.1.1.1.0);
        acted = search (rules, banks.1.1.0);
        num = search (rules, banks.1.1.1.0);
        shut = search (rules, banks.1.1.1.1.1.1.1.1.1.1.1.0);
        by = search (rules, banks.1.1.1.1.1.1.1.1.1.1.1.1.0);
        ring = search (rules, acts.1.1.0);
      };
      holds = search (rules, waits.1.1.1.1.1.0);
    } in
    record {
      floored = c.run_on-at.ensures.floored;
      reached = step-reached _ _ _ _ _ _ now more r.result r.ensures c.if-r-eq0.false c.step-lane.result c.step-lane.ensures c.if-lane-ne0.false whole;
    }
