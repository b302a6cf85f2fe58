-- The lemmas of fields of a terminal's status, read and written.
pub mod CanonicalLemmas
pub mod DecodeLemmas
pub mod DigitLemmas
pub mod PutLemmas
pub mod LengthLemmas
pub mod LimitLemmas
pub mod ValueLemmas
