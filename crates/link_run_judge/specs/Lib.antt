pub mod Transfers
pub mod Unpacking
pub mod TransferJudge
