pub mod Promises
pub mod Lane
