-- The definitions of the top call: how a script is read and played, the log that it leads to, and how the call ends.
pub mod Drill
pub mod Drills
pub mod Example
pub mod Laws
pub mod LogWritten
pub mod PlayedRuns
pub mod PowerExample
pub mod ReadyExample
pub mod Replay
pub mod RunEnds
pub mod ScriptLog
pub mod Serve
pub mod Serving
pub mod Top
pub mod Words
pub mod WordsExample
