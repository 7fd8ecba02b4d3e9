-- The rows are those of the definition, and each kind has its own.
pub mod Rows
pub mod Places
pub mod Answers
