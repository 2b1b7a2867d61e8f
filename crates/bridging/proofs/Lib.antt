-- The laws that the proofs of the functions cite.
pub mod Tables
pub mod Classes
pub mod Passing
