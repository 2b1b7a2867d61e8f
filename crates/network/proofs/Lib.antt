-- Laws of walks of a list, and of the columns of two tuples.
pub mod Walk
pub mod Clash
pub mod Columns
