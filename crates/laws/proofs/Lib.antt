-- Laws of no one layer: one answer, tables.
pub mod Unique
pub mod Both
pub mod Table
pub mod Lent
pub mod Eight
pub mod Cuts
