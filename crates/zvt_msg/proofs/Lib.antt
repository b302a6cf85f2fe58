-- The lemmas of messages of a terminal and commands to it.
pub mod BlockLemmas
pub mod BlockLineLemmas
pub mod BytesLeftLemmas
pub mod CanonicalLemmas
pub mod CommandLemmas
pub mod DisplayGrammarLemmas
pub mod DisplayLemmas
pub mod LimitLemmas
pub mod MessageLemmas
pub mod PrintedLinesLemmas
