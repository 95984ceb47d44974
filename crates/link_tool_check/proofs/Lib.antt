mod Appends
mod Blocks
mod BundleTexts
mod Closed
mod Kept
mod Offsets
mod Writing
