pub mod Listing
pub mod ListRun
