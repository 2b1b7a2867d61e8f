-- The definitions that the contracts cite.
pub mod Sides
pub mod Twins
