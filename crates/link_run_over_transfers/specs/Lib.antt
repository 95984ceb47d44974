pub mod Walk
pub mod Telling
pub mod WalkRun
pub mod Saying
