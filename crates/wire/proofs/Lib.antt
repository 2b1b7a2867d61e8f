-- The laws of entries and their bytes.
pub mod Entries
