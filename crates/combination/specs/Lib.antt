-- The definitions that the contracts cite.
pub mod Masks
pub mod Proper
pub mod Refusals
