pub mod Crc
pub mod CrcTables
pub mod Head
pub mod HeadScan
pub mod PieceLaws
pub mod Pieces
pub mod Pushed
pub mod Stage
