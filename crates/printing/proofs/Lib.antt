-- The laws that the proofs of the functions use.
pub mod Appended
pub mod CombinationText
pub mod Lines
pub mod Over
pub mod Relations
pub mod Reply
