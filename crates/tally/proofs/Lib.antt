-- The loops, and what a tally says of a recording.
pub mod Ranging
pub mod Folds
pub mod Nineteen
pub mod Cuts
pub mod Walking
pub mod Placing
pub mod Seeking
pub mod Standing
pub mod Files
pub mod Answers
