-- The files of definitions that contracts cite.
pub mod Expected
pub mod Fault
pub mod Grammar
pub mod ReplyMembers
pub mod Transaction
pub mod inner
