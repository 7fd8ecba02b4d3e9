-- The run is over all that was read, block after block, up to a refusal, the end, or past the limit.
-- Assumes nothing.
use Rattle.std.proofs.Common.{◌+◌, ◌*◌, ◌≡◌, ◌&&◌, Bool, ap, arith, rules, subst, leb}
use Rattle.std.proofs.lemmas.Bool.{not-true, not-false}
use Rattle.verdict.proofs.Reading.{Reads, reads-start, reads-turn, reads_end, past-limit}
use Rattle.verdict.proofs.ran.Goals as goal

pub loop-turn-init : goal.loop-turn-init
loop-turn-init c = (omega (arith, c.room-space.ensures), reads-start _)

pub returns-then-not-run : goal.returns-then-not-run
returns-then-not-run c =
    let l = c.loop-turn in
    reads_end _ _ _ l.invariant.1 c.requires (ap (λ (x : Bool). x && leb (l.turn * 7500) 1048576) (not-true _ c.if-not-run.true))

pub loop-turn-preserved : goal.loop-turn-preserved
loop-turn-preserved c =
    let l = c.loop-turn in
    let next : l.turn * 7500 + 7500 ≡ (l.turn + 1) * 7500 = omega arith in
    (search rules, subst (Reads c.args.start c.taken-run.result) next (reads-turn _ _ _ l.invariant.1 (not-false _ c.if-not-run.false) _ c.taken-run.ensures))

pub returns : goal.returns
returns c = let l = c.loop-turn in reads_end _ _ _ l.invariant.1 c.requires (past-limit l.run.more (l.turn * 7500) (omega (arith, c.loop-turn-test.false)))
