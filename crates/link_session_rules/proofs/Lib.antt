pub mod Pushes
pub mod Runs
pub mod Since
pub mod Later
pub mod Changes
pub mod Joined
pub mod Kept
pub mod Inner
