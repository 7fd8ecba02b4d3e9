pub mod Codes
pub mod Promises
