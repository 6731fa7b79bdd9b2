pub mod Endings
pub mod ServedBytes
