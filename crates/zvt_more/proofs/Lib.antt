-- The lemmas of refunds, reservations and their completions.
pub mod MoreLemmas
pub mod PartLemmas
pub mod SpellingLemmas
