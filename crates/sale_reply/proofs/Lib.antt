-- The files of lemmas.
pub mod BodySizeLemmas
pub mod CanonicalLemmas
pub mod LimitLemmas
pub mod OutputLemmas
pub mod PartLemmas
pub mod PlainLemmas
pub mod ReplySizeLemmas
pub mod RequestSizeLemmas
pub mod SizeLemmas
pub mod SpellableLemmas
pub mod StretchLemmas
pub mod TextLemmas
