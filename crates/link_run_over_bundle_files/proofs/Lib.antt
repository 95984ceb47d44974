pub mod Dividing
pub mod Divisions
pub mod Outcomes
pub mod Told
mod Founds
