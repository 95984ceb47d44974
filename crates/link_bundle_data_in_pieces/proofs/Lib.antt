pub mod Grown
pub mod Reading
mod Runs
pub mod Judged
