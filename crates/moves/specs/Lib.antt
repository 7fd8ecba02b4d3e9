pub mod Moves
pub mod Told
pub mod Check
pub mod Promises
