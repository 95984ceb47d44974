pub mod Heads
pub mod Comes
pub mod Texts
mod Tellings
mod Steps
mod Strides
mod Judgements
