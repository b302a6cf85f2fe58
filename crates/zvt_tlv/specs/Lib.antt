-- The definitions of TLV objects: which bytes spell one, and what bytes decode to.
pub mod Decode
pub mod ObjectsDecode
pub mod Grammar
pub mod ObjectsGrammar
pub mod Reader
pub mod Results
