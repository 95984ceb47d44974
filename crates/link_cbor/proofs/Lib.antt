mod CrcLaws
mod Feeding
mod Fronts
pub mod HeadLaws
pub mod Joins
mod Linear
mod LookUps
mod Pushes
mod Stages
mod Tables
