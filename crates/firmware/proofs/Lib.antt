pub mod Wholes
pub mod Corollaries
pub mod Meaning
pub mod Moved
