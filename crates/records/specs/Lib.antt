pub mod Pieces
pub mod Record
pub mod Command
pub mod Promises
