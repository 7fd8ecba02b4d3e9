pub mod Recording
pub mod Sections
