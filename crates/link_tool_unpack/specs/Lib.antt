pub use Rattle.link_run_judge.specs.Unpacking
pub mod TransferScan
pub mod Unpacker
