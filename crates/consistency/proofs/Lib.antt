-- The laws of the crate's definitions.
pub mod Pairs
pub mod Tested
