pub mod Windows
pub mod Sources
mod Writes
