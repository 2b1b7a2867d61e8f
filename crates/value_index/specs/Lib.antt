-- The definitions that the contracts cite.
pub mod Plan
pub mod Index
pub mod Planning
