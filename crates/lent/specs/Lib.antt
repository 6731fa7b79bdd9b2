pub mod Changes
pub mod Controllers
pub mod Copies
pub mod Promises
pub mod LentHistory
