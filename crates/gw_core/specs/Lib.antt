-- The definitions of what a till gets for each message, and of what the core wants done.
pub mod Beginning
pub mod DeviceActs
pub mod IsRow
pub mod Queues
pub mod ReplyOf
