-- The definitions that the contracts cite.
pub mod Search
pub mod Spent
