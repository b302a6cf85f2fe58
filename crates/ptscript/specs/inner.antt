-- Definitions that serve private functions: a program has no others.
pub mod Link
