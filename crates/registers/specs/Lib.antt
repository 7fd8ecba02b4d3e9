pub mod Allowed
pub mod Lowest
pub mod Reading
pub mod Promises
