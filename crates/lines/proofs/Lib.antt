-- What the proofs of the lines share, and that a line's contract allows one answer.
pub mod Decimal
pub mod Texts
pub mod Answers
