-- The definitions of this crate.
pub mod Decode
pub mod Example
pub mod Foreign
pub mod Images
pub mod Journal
pub mod JournalLogs
pub mod JournalSteps
pub mod JournalTurns
pub mod Laws
pub mod Opening
pub mod Slots
pub mod StepExample
pub mod inner
