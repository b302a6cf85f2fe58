-- The lemmas of this crate.
pub mod AppendLemmas
pub mod AppendedLemmas
pub mod DecodeLemmas
pub mod ForeignExampleLemmas
pub mod ForeignLemmas
pub mod ImageLemmas
pub mod JournalLogLemmas
pub mod OpenLemmas
pub mod PartLemmas
pub mod PrefixLemmas
pub mod ReadLemmas
pub mod SequenceLemmas
pub mod SlotLemmas
pub mod StepExampleLemmas
pub mod StepLemmas
pub mod TurnLemmas
