-- The laws of the crate's definitions.
pub mod Records
pub mod Counts
pub mod Whole
pub mod Packed
