pub mod Ranging
pub mod Asking
pub mod Soonest
