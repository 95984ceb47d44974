pub mod Heads
pub mod Effects
pub mod Texts
pub mod Events
pub mod Counts
pub mod Judging
