mod ListItems
mod Readings
mod Messages
mod Streams
mod NewItems
mod Whole
