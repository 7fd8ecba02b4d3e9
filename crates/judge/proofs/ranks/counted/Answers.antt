-- The steps are those of all records, and both ranks have them.
-- Assumes nothing.
use Rattle.judge.proofs.Counted.{later-fits, counts-zero, counts_is}
use Rattle.judge.proofs.ranks.counted.Goals as goal

pub returns-then-steps : goal.returns-then-steps
returns-then-steps c = counts-zero _ c.requires.bytes_len _ c.steps_in-steps.ensures c.args.start c.requires.fit c.if-steps.true

pub later-requires : goal.later-requires
later-requires c =
    let fits = later-fits _ c.requires.bytes_len _ c.steps_in-steps.ensures _ c.requires.fit in
    record { steps_bound = fits.0; records_bound = fits.1 }

pub later-requires-2 : goal.later-requires-2
later-requires-2 c =
    let fits = later-fits _ c.requires.bytes_len _ c.steps_in-steps.ensures _ c.requires.fit_2 in
    record { steps_bound = fits.0; records_bound = fits.1 }

pub returns : goal.returns
returns c =
    counts_is _ c.requires.bytes_len _ c.steps_in-steps.ensures c.args.start c.requires.fit c.if-steps.false _ _ c.later.ensures c.later-2.ensures
