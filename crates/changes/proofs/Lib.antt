-- The laws of a change.
pub mod Changed
