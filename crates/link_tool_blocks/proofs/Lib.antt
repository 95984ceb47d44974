pub mod Ended
mod Told
pub mod BundleTexts
mod Statuses
