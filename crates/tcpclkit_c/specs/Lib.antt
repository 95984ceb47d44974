pub mod Announced
pub mod Answer
pub mod Bundle
pub mod Scan
pub mod NextBlock
pub mod Text
pub mod EidText
pub mod Packed
