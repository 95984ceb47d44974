pub mod Event
pub mod Order
pub mod Joiner
pub mod Announced
pub mod Chunks
pub mod Cutting
pub mod Held
pub mod Cutter
