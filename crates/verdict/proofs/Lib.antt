-- What the proofs of the program's loop share.
pub mod Counting
pub mod Reading
