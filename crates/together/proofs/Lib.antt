-- The laws of supports sought together.
pub mod Frames
pub mod Places
pub mod Last
pub mod Choosing
pub mod Turn
pub mod Root
