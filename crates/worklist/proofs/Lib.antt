-- The laws of the queue and of the support list.
pub mod Waiting
pub mod Stretch
