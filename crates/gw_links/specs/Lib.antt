-- The definitions of this crate.
pub mod Example
pub mod Waiting
pub mod inner
