-- The laws of the machine's operations on words, of words copied, and of a word stored.
pub mod Ahead
pub mod Between
pub mod Bits
pub mod Copies
pub mod Stores
