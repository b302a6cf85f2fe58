-- The definitions of two disks and of the log of one disk that a log of two stands for.
pub mod PairOutside
pub mod One
pub mod Mirrored
pub mod Laws
pub mod Unique
pub mod PairObserved
pub mod MirrorObserved
pub mod Examples
pub mod inner
