pub mod SmallHeads
pub mod Walks
