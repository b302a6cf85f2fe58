-- The lemmas of what a log says of connections and of the disk.
pub mod OverwriteLemmas
pub mod ImageLemmas
pub mod OutsideLemmas
pub mod GrowsLemmas
pub mod StreamLemmas
