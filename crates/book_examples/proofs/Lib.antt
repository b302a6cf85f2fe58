-- The proof that the examples are lawful, and of what agrees and what doesn't.
pub mod CourseLemmas
pub mod DayExampleLemmas
pub mod DayTextLemmas
pub mod DisagreeLemmas
pub mod ExampleLemmas
pub mod KindExampleLemmas
pub mod QueuedExampleLemmas
