-- The lemmas of a configuration document: its form, its limits, and its first fault.
mod DocumentLemmas
mod ExitLemmas
mod FirstFaultLemmas
mod FormLemmas
mod LimitLemmas
mod NameLemmas
mod OffsetLemmas
mod ReadLemmas
mod TableLemmas
