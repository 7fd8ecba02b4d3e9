pub mod Spread
pub mod Wide
pub mod Moved
pub mod Low
pub mod Editions
pub mod Seen
pub mod Steps
pub mod Promises
