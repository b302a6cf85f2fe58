-- The lemmas of the played terminal, its book and its history.
pub mod ReactionLemmas
pub mod BookLemmas
pub mod CauseLemmas
pub mod EndLemmas
pub mod ExampleLemmas
pub mod GrowthLemmas
pub mod HearingLemmas
pub mod HistoryLemmas
pub mod HonestLemmas
pub mod NextLemmas
pub mod PlaceLemmas
pub mod PrefixLemmas
pub mod ProgressLemmas
pub mod SplitLemmas
