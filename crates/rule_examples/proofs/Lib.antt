-- The proof that the logs of the examples are lawful.
pub mod CauseExampleLemmas
pub mod CutCauseExampleLemmas
pub mod CutExampleLemmas
pub mod DayLogExampleLemmas
pub mod DoneExampleLemmas
pub mod ExampleLemmas
pub mod MalformedExampleLemmas
pub mod NextDayTextLemmas
pub mod OutsideItemLemmas
pub mod PaymentLogLemmas
pub mod QueueExampleLemmas
pub mod RecoveryLogLemmas
pub mod RowExampleLemmas
pub mod TerminalLogLemmas
pub mod TextLemmas
pub mod TillLogExampleLemmas
pub mod UnlawfulLemmas
