pub mod BlockLines
pub mod LineLaws
pub mod Showing
pub mod TransferBlocks
pub mod Lister
pub mod Laws
pub mod Bundles
