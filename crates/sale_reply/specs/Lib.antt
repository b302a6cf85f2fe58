-- The files of definitions that contracts cite.
pub mod Limits
pub mod Names
pub mod Outputs
pub mod Reply
pub mod Texts
pub mod inner
