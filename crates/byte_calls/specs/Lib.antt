-- The definitions that the contracts cite.
pub mod Call
pub mod Planned
