-- The laws of the filter's work.
pub mod Parts
pub mod Candidates
pub mod Bounds
pub mod Steps
pub mod Resting
pub mod Visiting
pub mod Walking
pub mod Blanks
pub mod Start
pub mod Turn
pub mod End
