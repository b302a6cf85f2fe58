-- The lemmas of TLV objects: what bytes decode to.
pub mod DecodeLemmas
pub mod ObjectsDecodeLemmas
pub mod ResultLemmas
