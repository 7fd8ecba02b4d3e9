pub mod Early
pub mod Running
pub mod Hold
