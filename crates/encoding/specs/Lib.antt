-- The definitions that the contracts cite.
pub mod Records
pub mod Whole
pub mod Packed
pub mod Call
