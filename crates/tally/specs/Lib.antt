pub mod Kinds
pub mod Tally
pub mod Counts
pub mod Walk
pub mod Refused
pub mod Places
pub mod Search
pub mod Promises
