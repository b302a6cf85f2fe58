-- Definitions that serve private functions alone.
pub mod RowValue
pub mod OptionalParts
