-- The lemmas of bytes and prefixes.
pub mod ByteLemmas
