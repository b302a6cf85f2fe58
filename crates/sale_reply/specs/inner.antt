-- Definitions that serve private functions alone.
pub mod Appends
pub mod CanonicalMembers
pub mod ShownByte
