mod Packed
mod Blocks
mod Ends
mod Primaries
mod Items
mod Walks
mod AnyShare
mod Lending
