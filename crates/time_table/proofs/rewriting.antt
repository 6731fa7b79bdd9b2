-- What the proofs of `Rewriting` share.
pub mod Places
pub mod StepsOverRows
pub mod Walked
