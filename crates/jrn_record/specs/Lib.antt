-- The definitions of this crate.
pub mod Grammar
pub mod Limits
pub mod Table
pub mod inner
