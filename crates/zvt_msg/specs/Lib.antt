-- The definitions of messages of a terminal and commands to it: which bytes spell one, and what each decodes to.
pub mod BlockDecode
pub mod BlockGrammar
pub mod CommandCanonical
pub mod CommandDecode
pub mod CommandGrammar
pub mod Example
pub mod Message
pub mod MessageCanonical
pub mod MessageDecode
pub mod MessageGrammar
pub mod Numbers
pub mod PrintedLines
pub mod Results
pub mod inner
