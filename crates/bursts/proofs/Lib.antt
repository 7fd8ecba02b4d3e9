-- What the proofs of the burst orders share, and what a caller may want to know of them.
pub mod Answers
