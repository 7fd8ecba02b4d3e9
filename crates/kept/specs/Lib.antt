pub mod Promises
pub mod Wants
