pub mod Faults
mod Digits
mod Zeros
mod Segments
mod Pages
