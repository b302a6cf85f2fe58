-- The definitions of what a drill counts, and of its books.
pub mod Counts
pub mod CountsExample
pub mod DrillBooks
