pub mod Openings
pub mod Never
pub mod Section
pub mod Sections
pub mod Cuts
pub mod Recordings
pub mod Lots
