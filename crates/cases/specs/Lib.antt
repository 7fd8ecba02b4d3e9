pub mod Case
pub mod Table
