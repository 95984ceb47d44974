pub mod Segments
pub mod Packing
pub mod Packer
pub mod PackRun
pub mod More
pub mod MoreRun
pub mod MoreLaws
