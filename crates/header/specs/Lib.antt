pub mod Bins
pub mod Bytes
pub mod Counts
pub mod Promises
