-- What the reader of scripts returns, in the words of the grammar.
pub mod Drawn
pub mod Read
pub mod Values
pub mod Words
