-- The laws that the proofs of the functions use.
pub mod Enumerated
pub mod Fresh
pub mod Standing
pub mod Written
