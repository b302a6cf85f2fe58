-- The lemmas of this crate.
pub mod BodyLemmas
pub mod FieldLemmas
pub mod LawLemmas
pub mod MomentLemmas
pub mod ReadLemmas
pub mod WriteLemmas
