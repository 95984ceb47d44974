pub mod Kinds
pub mod Fields
pub mod Words
pub mod Blocks
pub mod Fits
