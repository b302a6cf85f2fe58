-- The lemmas of scripts and the text of a log.
pub mod LogTextLemmas
pub mod NumberLemmas
pub mod site
