mod Overlays
pub mod Runs
pub mod Walks
