pub mod Fits
pub mod FirstFit
