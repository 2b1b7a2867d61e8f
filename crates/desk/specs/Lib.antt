-- The definitions that the contracts cite.
pub mod Opened
pub mod Asked
