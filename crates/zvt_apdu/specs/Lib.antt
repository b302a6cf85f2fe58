-- The definitions of APDUs of a terminal, in chunks of any size.
pub mod Decode
pub mod DecodeStream
pub mod Grammar
pub mod Results
pub mod Stream
pub mod inner
