-- The definitions of scripts: what their lines spell, which logs play one, and the text of a log.
pub mod Decode
pub mod Example
pub mod Laws
pub mod LogText
pub mod site
