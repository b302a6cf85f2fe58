-- The files of definitions that contracts cite.
pub mod CanonicalHeader
pub mod HeaderTexts
pub mod Key
pub mod MemberShapes
pub mod Money
pub mod Names
pub mod PartBytes
