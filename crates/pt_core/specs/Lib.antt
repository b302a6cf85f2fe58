-- The definitions of the played terminal: how it reacts, its book, and what is true of both.
pub mod Book
pub mod Ends
pub mod Example
pub mod Exchange
pub mod History
pub mod Honest
pub mod Serving
pub mod Table
pub mod inner
