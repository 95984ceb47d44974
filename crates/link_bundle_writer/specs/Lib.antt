pub mod Heads
pub mod EndpointIds
pub mod NewBlocks
pub mod NewBundles
pub mod NewData
pub mod NewPrimary
pub mod GoodBundle
