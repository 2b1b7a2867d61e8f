-- What the contracts cite.
pub mod Alike
pub mod Doubles
