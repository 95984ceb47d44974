pub mod MessageBytes
pub mod Pieces
pub mod ReadsBack
pub mod Sent
