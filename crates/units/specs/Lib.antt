pub mod Round
pub mod Promises
