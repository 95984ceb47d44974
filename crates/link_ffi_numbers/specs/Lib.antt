pub mod Status
pub mod Fault
pub mod Named
pub mod Bundle
pub mod Block
pub mod Recording
pub mod Order
