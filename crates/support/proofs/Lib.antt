-- The laws of the search.
pub mod Chosen
pub mod Prefix
pub mod Walking
pub mod Own
pub mod Turn
pub mod Ends
pub mod Last
pub mod Narrow
pub mod Alone
pub mod Failed
pub mod Spent
pub mod Behind
