pub mod Ranges
pub mod Answers
pub mod Calls
pub mod Pairs
pub mod Promises
