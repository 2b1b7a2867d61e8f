-- The definitions that the contracts cite.
pub mod Tuples
pub mod Scopes
