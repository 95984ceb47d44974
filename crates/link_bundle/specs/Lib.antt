pub mod Left
pub mod Stages
pub mod Fits
pub mod Scan
pub mod Part
