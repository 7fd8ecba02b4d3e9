pub mod Lent
pub mod Eight
pub mod Among
pub mod Any
pub mod Cuts
