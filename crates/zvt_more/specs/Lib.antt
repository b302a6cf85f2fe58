-- The definitions of refunds, reservations and their completions: which bytes spell one, and what each decodes to.
pub mod Canonical
pub mod Decode
pub mod Example
pub mod Grammar
