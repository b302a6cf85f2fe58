-- The definitions of this crate.
pub mod Holding
pub mod Link
pub mod inner
