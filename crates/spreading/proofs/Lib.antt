-- The laws that the proofs of the functions cite.
pub mod Relations
pub mod Kept
pub mod Numbers
pub mod Meeting
