-- Check 1, then the fields.
-- Assumes nothing.
use borrow.Author.Tests.{eq-eqb, ne_eqb}
use Rattle.header.specs.Bytes.{parsed_of, header_refusal, header_word, fields_of}
use Rattle.header.proofs.opening.parse.Goals as goal

pub returns-then-bytes-ne6 : goal.returns-then-bytes-ne6
unfolding parsed_of header_refusal header_word fields_of
returns-then-bytes-ne6 c = simp (ne_eqb _ _ c.if-bytes-ne6.true)

pub returns : goal.returns
unfolding parsed_of header_refusal header_word fields_of
returns c = simp (eq-eqb _ _ c.if-bytes-ne6.false, c.fields.ensures, c.word.ensures)
