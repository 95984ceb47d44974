pub mod Run
pub mod WholeRun
pub mod NewRun
pub mod Made
pub mod Writers
pub mod Reading
pub mod Stages
pub mod Next
