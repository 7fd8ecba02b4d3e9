pub mod Answer
pub mod Back
pub mod Promises
