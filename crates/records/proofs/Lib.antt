pub mod Pieces
pub mod Words
pub mod Records
pub mod Answers
pub mod Turns
pub mod Tags
