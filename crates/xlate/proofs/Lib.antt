-- The lemmas of commands, displays, examples, limits and texts.
pub mod AskLemmas
pub mod DisplayLemmas
pub mod ExampleLemmas
pub mod LimitLemmas
pub mod TextLemmas
