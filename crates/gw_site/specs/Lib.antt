-- The definitions of connections and disk as one object, its streams, and what a log says of them.
pub mod Failures
pub mod Image
pub mod Laws
pub mod Memory
pub mod Observed
pub mod Outside
pub mod Sorts
pub mod Steps
pub mod Streams
pub mod Turns
