-- The definitions of frames of a till, in chunks of any size.
pub mod Steps
pub mod Decode
pub mod Grammar
