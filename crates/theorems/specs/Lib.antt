-- What the calls promise.
pub mod Mission
pub mod ByteCalls
pub mod Moves
pub mod Tighter
