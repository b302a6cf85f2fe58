-- The files of lemmas.
pub mod HeaderLemmas
pub mod MoneyLemmas
pub mod ObjectLemmas
pub mod Utf8Lemmas
