pub mod Chip
pub mod Latencies
pub mod Promises
