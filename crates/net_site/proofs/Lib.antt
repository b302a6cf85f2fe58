-- The lemmas of lists: filtered by a field of their elements or without one of them, and with one element set.
pub mod ListLemmas
