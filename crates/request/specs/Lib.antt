-- The definitions that the contracts cite.
pub mod Checks
pub mod Removal
pub mod Choices
pub mod Answer
pub mod Plan
