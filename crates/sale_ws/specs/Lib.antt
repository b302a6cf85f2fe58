-- The definitions of tills by WebSocket.
pub mod Gateway
pub mod Socket
pub mod Stream
pub mod Memory
pub mod Kit
pub mod Turn
pub mod TurnExample
pub mod inner
