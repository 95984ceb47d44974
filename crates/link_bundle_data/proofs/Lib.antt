pub mod Starts
pub mod Names
pub mod Heads
pub mod Stops
pub mod Steps
pub mod LongHeads
pub mod Results
