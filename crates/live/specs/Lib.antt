-- The definitions that the contracts cite.
pub mod Ids
pub mod Words
