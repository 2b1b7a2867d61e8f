-- The laws of words that shrink, of relations beside each other, and of tuples that none of a relation's live tuples agrees with.
pub mod Shrunk
pub mod Beside
pub mod Unmet
