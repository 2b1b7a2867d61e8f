-- The laws of twins.
pub mod Dividing
pub mod Mixed
pub mod BySides
pub mod Sought
pub mod Taking
