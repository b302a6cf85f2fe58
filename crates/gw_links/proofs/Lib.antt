-- The lemmas of this crate.
pub mod ChainLemmas
pub mod DeadlineLemmas
pub mod FindLemmas
pub mod InsertLemmas
pub mod LinkLemmas
pub mod NumberLemmas
pub mod OrderLemmas
pub mod SoundLemmas
pub mod TakeLemmas
pub mod WalkLemmas
