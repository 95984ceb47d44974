pub mod Ending
pub mod BufferedEnd
