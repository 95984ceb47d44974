pub mod Table
pub mod Invoked
pub mod Usage
pub mod Building
pub mod Reading
