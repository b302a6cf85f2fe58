-- The definitions of one dialogue with a terminal: what came, what it means, and how it ends.
pub mod Came
pub mod Dialogue
pub mod Example
pub mod Laws
pub mod Limits
pub mod Table
pub mod Talk
pub mod TalkSteps
