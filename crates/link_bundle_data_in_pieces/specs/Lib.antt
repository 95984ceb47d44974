pub mod Found
pub mod DataReader
