-- The definitions of the loop of a run: a round, the tills that it holds, and how a run ends.
pub mod Apdus
pub mod Growth
pub mod GrowthExample
pub mod RunState
pub mod Keeping
pub mod KeepingExample
pub mod MidRound
pub mod NextMessage
pub mod Overdue
pub mod RecordsOpening
pub mod Round
pub mod Rounds
pub mod RunEnd
pub mod Serving
pub mod Tills
pub mod Wanted
