-- The files of lemmas.
pub mod BodyLemmas
pub mod FormLemmas
pub mod HeaderLemmas
pub mod LinkLemmas
pub mod MessageLemmas
pub mod MoneyLemmas
pub mod PathLemmas
pub mod RowLemmas
pub mod SpellableLemmas
pub mod TextLemmas
pub mod UniqueLemmas
pub mod WriterLemmas
