-- The one is judged; the other goes as far.
-- Assumes nothing.
use native.Mathlib.Omega.{arith}
use mathlib.Core.Bool.{false, cond, not, ◌||◌}
use mathlib.Core.Path.{refl, sym, ap, subst, ◌∙◌}
use Rattle.judge.specs.Pairs.{begun, pair_as, pair_of, single_as, Took, Alone}
use Rattle.judge.proofs.Pairs.{took-zero}
use Rattle.judge.proofs.Counted.{any-zero, able-in, gone, beside-fits, beside-took}
use Rattle.judge.proofs.ranks.beside.Goals as goal

pub alone-requires : goal.alone-requires
alone-requires c = able-in c.requires.ready c.args.second _ c.rank_in-judged.ensures

pub returns-in_err-r : goal.returns-in_err-r
returns-in_err-r c =
    let p = c.args in
    subst (λ r. Took p.chip (begun p.start) p.bytes.now (pair_as p.start r)) (sym c.from_residual.ensures)
    (took-zero refl (sym (any-zero p.second p.bytes.now) ∙ sym c.alone.ensures.zero ∙ ap (λ r. (single_as c.rank_in-judged.result r).zero) c.in_err-r.was))

pub overflow_sub-after : goal.overflow_sub-after
overflow_sub-after c =
    let p = c.args in
    let a = subst (λ r. Alone p.chip p.second c.rank_in-judged.result p.bytes.now (single_as c.rank_in-judged.result r)) c.in_ok-r.was c.alone.ensures in
    omega (arith, gone p.chip p.second c.rank_in-judged.result c.in_ok-r.r.rank p.bytes.now (a.after refl))

pub later-on-requires : goal.later-on-requires
later-on-requires c =
    let p = c.args in
    let a = subst (λ r. Alone p.chip p.second c.rank_in-judged.result p.bytes.now (single_as c.rank_in-judged.result r)) c.in_ok-r.was c.alone.ensures in
    let fits = beside-fits p.chip p.second c.rank_in-judged.result c.in_ok-r.r.rank p.bytes.now (a.after refl) _ (able-in c.requires.ready (not p.second) _ c.rank_in-other.ensures) in
    record { steps_bound = fits.0; records_bound = fits.1 }

pub returns-then-second : goal.returns-then-second
returns-then-second c =
    let p = c.args in
    let a = subst (λ r. Alone p.chip p.second c.rank_in-judged.result p.bytes.now (single_as c.rank_in-judged.result r)) c.in_ok-r.was c.alone.ensures in
    let after = c.in_ok-r.r.rank in
    let on = c.later-on.result in
    let taken = c.if-second.true in
    beside-took (begun p.start) p.second a refl c.rank_in-judged.ensures c.rank_in-other.ensures c.requires.fact c.later-on.ensures _
    (λ i. pair_of false (p.start.spare || c.in_ok-r.r.spare) (cond (sym taken i) on after) (cond (sym taken i) after on))

pub returns : goal.returns
returns c =
    let p = c.args in
    let a = subst (λ r. Alone p.chip p.second c.rank_in-judged.result p.bytes.now (single_as c.rank_in-judged.result r)) c.in_ok-r.was c.alone.ensures in
    let after = c.in_ok-r.r.rank in
    let on = c.later-on.result in
    let left = c.if-second.false in
    beside-took (begun p.start) p.second a refl c.rank_in-judged.ensures c.rank_in-other.ensures c.requires.fact c.later-on.ensures _
    (λ i. pair_of false (p.start.spare || c.in_ok-r.r.spare) (cond (sym left i) on after) (cond (sym left i) after on))
