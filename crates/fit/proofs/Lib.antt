pub mod CandidateStart
pub mod RowPass
pub mod FirstFit
