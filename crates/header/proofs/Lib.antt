pub mod Times
pub mod Bounds
pub mod Edition
pub mod Answers
