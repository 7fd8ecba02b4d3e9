pub mod Folds
pub mod Pairs
pub mod Counted
pub mod Ranging
pub mod Sections
pub mod Answers
pub mod Told
