pub mod Blocks
pub mod Bundles
pub mod Telling
pub mod BundleRun
