-- Closed examples of what items of a round owe.
pub mod AbortExample
pub mod DayExample
pub mod DeviceExample
pub mod DisplayExample
pub mod PaymentExample
pub mod RecordExample
pub mod ReversalExample
pub mod ReversalPremises
pub mod SessionExample
pub mod StepExample
pub mod TerminalExample
pub mod WaitingExample
