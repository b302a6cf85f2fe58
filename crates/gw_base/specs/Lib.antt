-- The definitions of values that all crates share: identifiers, currencies, amounts, BCD, moments and the setup.
pub mod Amount
pub mod Bcd
pub mod Condition
pub mod Currency
pub mod Digits
pub mod Ident
pub mod Key
pub mod Limits
pub mod Moment
pub mod Setup
pub mod Text437
pub mod Transaction
pub mod inner
