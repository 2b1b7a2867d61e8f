-- The laws of the crate's definitions.
pub mod Found
pub mod Bytes
pub mod Lines
pub mod Networks
pub mod Whole
