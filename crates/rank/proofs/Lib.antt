pub mod Lanes
pub mod Commands
pub mod Answers
mod Filling
