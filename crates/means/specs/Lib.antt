-- What a verdict means, in 01's words: which events are a partner, what a record or an edge breaks, and with whom.
pub mod Partners
pub mod Pairs
pub mod Passing
pub mod Breaks
pub mod Means
pub mod Clock
pub mod Unseen
