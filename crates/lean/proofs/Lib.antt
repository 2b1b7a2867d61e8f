-- The laws of lean words.
pub mod Thinning
pub mod Leaner
pub mod Supports
