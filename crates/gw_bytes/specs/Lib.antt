-- The definitions of what every format shares: bytes and prefixes, readers fed in chunks, hexadecimal digits.
pub mod Bytes
pub mod Chunks
pub mod Hex
