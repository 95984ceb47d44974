pub mod Messages
pub mod Bundles
pub mod Checks
pub mod Written
