-- The definitions that the contracts cite, and a law.
pub mod Entries
pub mod Laws
