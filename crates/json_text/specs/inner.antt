-- Definitions that serve private functions alone.
pub mod ByteFaults
pub mod CharacterLeft
pub mod ContentBytes
pub mod MemberIndex
pub mod MemberOrder
pub mod NumberBlocks
pub mod NumberLeft
pub mod ReaderProgress
pub mod ReaderStates
