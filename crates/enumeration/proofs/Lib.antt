-- The laws of the crate's definitions.
pub mod Front
pub mod Joining
pub mod Reached
pub mod Completions
pub mod Added
pub mod Last
pub mod Ahead
pub mod Extending
pub mod Whole
pub mod Answered
