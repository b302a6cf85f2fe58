-- Closed examples of what the headline says.
pub mod DayExample
pub mod DisagreeExample
pub mod Example
pub mod KindExample
pub mod QueuedExample
