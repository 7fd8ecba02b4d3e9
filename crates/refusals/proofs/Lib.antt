pub mod Answers
pub mod Passed
