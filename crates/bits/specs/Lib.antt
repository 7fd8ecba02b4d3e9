pub mod Bits
pub mod Promises
