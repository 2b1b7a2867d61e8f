-- The laws of doubles.
pub mod Others
pub mod Entries
