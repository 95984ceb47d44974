pub mod Slice
pub mod Reading
pub mod Options
pub mod Tool
pub mod Run
