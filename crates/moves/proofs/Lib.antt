pub mod Going
pub mod Outcomes
pub mod Sections
pub mod Heads
pub mod Laying
pub mod Back
pub mod Answers
