pub mod File
pub mod Stream
pub mod Parts
