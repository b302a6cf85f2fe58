-- The files of definitions that contracts cite.
pub mod Canonical
pub mod Category
pub mod Flaw
pub mod Form
pub mod Grammar
pub mod Path
pub mod Table
pub mod inner
