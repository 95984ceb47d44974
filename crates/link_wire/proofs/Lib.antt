pub mod FieldReads
mod Gettings
mod Plains
mod Skips
mod Items
pub mod Shrinks
pub mod Within
pub mod Steady
pub mod Contacts
pub mod Streams
mod Rests
pub mod Wholes
mod Sessions
mod Inners
pub mod Sound
mod Complete
mod OneReading
pub mod Spellings
mod SliceReads
mod ItemReads
