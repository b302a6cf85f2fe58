-- The definitions that serve private functions alone.
pub mod Copying
pub mod Halves
pub mod Opening
