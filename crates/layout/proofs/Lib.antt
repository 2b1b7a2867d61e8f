-- The laws of the crate's definitions.
pub mod StdLists
pub mod Relations
pub mod Starts
pub mod SoundStarts
pub mod Places
pub mod Inside
pub mod Columns
pub mod Outline
pub mod Pairs
pub mod Rows
pub mod Bridge
pub mod Checked
pub mod Records
