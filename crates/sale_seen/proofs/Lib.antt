-- The files of lemmas.
pub mod BodyLemmas
pub mod HeaderLemmas
pub mod IdentLemmas
pub mod MoneyLemmas
pub mod NameLemmas
pub mod PathLemmas
pub mod ReplyLemmas
pub mod TransactionLemmas
pub mod UniqueLemmas
