-- What a proof may see of two files in memory.
pub mod FilesObserved
