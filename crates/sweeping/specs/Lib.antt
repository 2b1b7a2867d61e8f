-- The definitions that the contracts cite.
pub mod Shrunk
pub mod Sweep
