pub mod Bytes
pub mod Limits
pub mod Device
pub mod Source
pub mod Writing
pub mod TextWriter
