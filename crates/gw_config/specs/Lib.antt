-- The definitions of a configuration document: its form, the setup that it is, and its first fault.
pub mod Example
pub mod FaultLine
pub mod Faults
pub mod FirstFault
pub mod Form
pub mod Grammar
pub mod Keys
pub mod inner
