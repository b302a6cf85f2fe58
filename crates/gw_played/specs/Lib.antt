-- The books of played terminals are honest.
pub mod DayExample
pub mod Example
pub mod Played
pub mod ReversalExample
