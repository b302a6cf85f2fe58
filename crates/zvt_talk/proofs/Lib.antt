-- The lemmas of one dialogue with a terminal: its steps, its stop and its end.
pub mod EndLawLemmas
pub mod EndLemmas
pub mod LimitLemmas
pub mod StatusLemmas
pub mod StepLemmas
pub mod StopLemmas
pub mod StopWishedLemmas
