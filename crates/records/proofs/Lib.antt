-- The laws of the crate's definitions.
pub mod Padded
pub mod Taken
pub mod Written
pub mod Replies
pub mod Packing
