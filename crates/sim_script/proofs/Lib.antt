-- The lemmas of the reader of scripts.
pub mod DrillLemmas
pub mod DrillSizeLemmas
pub mod LineLemmas
pub mod NumberLemmas
pub mod ScriptLemmas
pub mod SplitLemmas
pub mod WordLemmas
