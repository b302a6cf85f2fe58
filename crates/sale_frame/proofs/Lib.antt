-- The lemmas of frames of a till, in chunks of any size.
pub mod StepLemmas
pub mod DecodeLemmas
pub mod FrameLemmas
pub mod StreamLemmas
