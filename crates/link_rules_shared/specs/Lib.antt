pub mod Flags
pub mod Heads
pub mod HeadWalk
pub mod Prefix
pub mod Uri
pub mod DtnNames
pub mod NodeIds
pub mod Nodes
