-- The definitions of JSON text: its trees, which text spells one, the first fault, and the canonical text.
pub mod Canonical
pub mod Character
pub mod Fault
pub mod FaultText
pub mod Grammar
pub mod MemberNames
pub mod Number
pub mod Scan
pub mod Spellable
pub mod Tree
pub mod ValueOf
pub mod inner
