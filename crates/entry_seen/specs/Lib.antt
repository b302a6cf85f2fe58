-- The definitions of this crate.
pub mod Example
pub mod ReplyRead
