-- The lemmas of APDUs of a terminal, in chunks of any size.
pub mod DecodeLemmas
pub mod DecodeStreamLemmas
pub mod ResultLemmas
pub mod StreamLemmas
