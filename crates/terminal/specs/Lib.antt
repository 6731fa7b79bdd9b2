pub mod Endings
pub mod Reads
