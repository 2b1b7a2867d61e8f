-- The definitions that the contracts cite.
pub mod Appended
pub mod Lines
