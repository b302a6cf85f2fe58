-- Definitions that serve private functions alone.
pub mod Chain
pub mod Table
