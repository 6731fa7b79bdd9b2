pub mod Pages
pub mod Written
pub mod Running
pub mod Unique
pub mod Example
