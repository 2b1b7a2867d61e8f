-- The laws that the proofs of the functions cite.
pub mod Planning
pub mod ValueRows
pub mod Entries
pub mod Spread
