pub mod WithoutPlan
pub mod CopiedSlice
pub mod CopyGiven
pub mod LentDemand
pub mod Unique
