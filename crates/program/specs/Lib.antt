pub mod Answer
pub mod Program
pub mod Promises
