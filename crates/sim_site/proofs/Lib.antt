-- The lemmas of the site in memory.
pub mod ConnectionLemmas
pub mod DiskLemmas
pub mod EarlyLemmas
pub mod HazardLemmas
pub mod JunkLemmas
pub mod PeerLemmas
pub mod PlaceLemmas
pub mod PlayedLemmas
pub mod PollLemmas
pub mod RangeLemmas
pub mod SetupLemmas
pub mod SiteLemmas
pub mod SoughtLemmas
pub mod StepLemmas
pub mod WriteLemmas
