-- The definitions that the contracts cite.
pub mod Narrows
pub mod Sieve
pub mod TupleRows
pub mod Gathers
