-- The proof of the examples of what items of a round owe.
pub mod AbortExampleLemmas
pub mod AskedTextLemmas
pub mod DeviceExampleLemmas
pub mod DisplayExampleLemmas
pub mod ExampleLemmas
pub mod PaymentExampleLemmas
pub mod ReconciliationExampleLemmas
pub mod RecordExampleLemmas
pub mod ReversalExampleLemmas
pub mod ReversalPremiseLemmas
pub mod SessionExampleLemmas
pub mod StepExampleLemmas
pub mod WaitingExampleLemmas
