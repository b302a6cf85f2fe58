-- Definitions that serve private functions alone.
pub mod OutcomeRead
pub mod Spelled
