-- `bursts::in_sequence` meets its contract: word after word, by what `word` ensures.
-- Assumes nothing.
use Rattle.bursts.proofs.in_sequence.Goals as goal

pub returns : goal.returns
returns c = simp (c.word-8.ensures, c.word-7.ensures, c.word-6.ensures, c.word-5.ensures, c.word-4.ensures, c.word-3.ensures, c.word-2.ensures, c.word.ensures)
