pub mod Answers
pub mod Lowest
pub mod Facts
pub mod Zeros
