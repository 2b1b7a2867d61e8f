-- The definitions that the contracts cite.
pub mod Reach
pub mod Sets
pub mod Adds
pub mod Stage
pub mod Found
