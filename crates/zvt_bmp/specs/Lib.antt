-- The definitions of fields of a terminal's status: their numbers, their values and their canonical bytes.
pub mod Canonical
pub mod Decode
pub mod Example
pub mod Grammar
pub mod Table
pub mod ValueGrammar
pub mod inner
