pub mod Sending
pub mod Outcomes
mod MoreOutcomes
mod Packs
pub mod Moved
