-- The lemmas of the log of one disk that a log of two stands for.
pub mod GrowLemmas
pub mod WithinLemmas
pub mod HoldsLemmas
pub mod StepLemmas
pub mod OneLemmas
pub mod OutsideLemmas
pub mod PairLemmas
pub mod RunLemmas
pub mod OpeningLemmas
pub mod MirrorLemmas
pub mod LineLemmas
pub mod ReachLemmas
pub mod OpensLemmas
pub mod BeforeLemmas
pub mod CopyLemmas
pub mod CopyPairLemmas
pub mod OpenedLemmas
