-- The three points of the functions for C, and the contracts that they rest on.
pub mod Bytes
pub mod AtOnce
pub mod Contracts
pub mod Listings
pub mod Bits
pub mod Tighter
