-- What is promised of the waiting times that a state keeps.
pub mod Waited
