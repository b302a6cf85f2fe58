-- The definitions of this crate.
pub mod Ask
pub mod Codes
pub mod Display
pub mod Example
pub mod Finished
pub mod Reply
pub mod Text
