-- The lemmas of the values that all crates share.
pub mod AmountLemmas
pub mod BcdLemmas
pub mod KeyLemmas
pub mod MomentLemmas
pub mod TransactionLemmas
