-- Closed examples of lawful logs.
pub mod CauseExample
pub mod CutCauseExample
pub mod CutExample
pub mod DayLogExample
pub mod DoneExample
pub mod Example
pub mod MalformedExample
pub mod OutsideItemExample
pub mod PaymentLogExample
pub mod QueueExample
pub mod RecoveryLogExample
pub mod RowExample
pub mod TerminalLogExample
pub mod TillLogExample
