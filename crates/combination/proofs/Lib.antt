-- The laws of the crate's definitions.
pub mod Members
pub mod Reached
pub mod Found
