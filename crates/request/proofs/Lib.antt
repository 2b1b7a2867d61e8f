-- The laws of the crate's definitions.
pub mod Openings
pub mod Plans
pub mod Removed
pub mod Unlike
pub mod Pairs
