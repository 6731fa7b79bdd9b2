pub mod Commands
pub mod Pages
pub mod Written
pub mod AnswerNumbers
pub mod Outcomes
pub mod Runs
pub mod Unique
pub mod Example
