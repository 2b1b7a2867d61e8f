-- The laws of the value index, and of the words narrowed by it.
pub mod Words
pub mod Narrowing
pub mod Sieves
pub mod TupleRows
pub mod Gathered
