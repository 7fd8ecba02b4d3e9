pub mod Text
pub mod Glossary
pub mod Promises
