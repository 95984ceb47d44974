pub mod EidView
pub mod BundleView
pub mod Faults
pub mod ShortNames
pub mod KeptEid
