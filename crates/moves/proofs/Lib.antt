-- The laws that the proofs of the functions use.
pub mod Replies
