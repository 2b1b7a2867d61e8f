-- The definitions that the contracts cite.
pub mod Loan
pub mod Shape
pub mod Starts
pub mod Places
pub mod Setting
pub mod Pairs
pub mod Columns
