-- The laws of the whole script.
pub mod ByLinesLemmas
pub mod CallLemmas
pub mod CallerLemmas
pub mod EventLemmas
pub mod ExactLemmas
pub mod FormLemmas
pub mod LeadsLemmas
pub mod LinesLemmas
pub mod NoFailureLemmas
pub mod PowerLemmas
pub mod QuietLemmas
pub mod ScriptLemmas
pub mod StepTurnLemmas
pub mod WordLemmas
