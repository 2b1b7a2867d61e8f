-- The definitions that the contracts cite.
pub mod Work
pub mod Rest
pub mod Blank
