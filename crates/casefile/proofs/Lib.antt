pub mod Chunks
pub mod Ends
pub mod Keeping
pub mod Settling
pub mod Last
pub mod Laws
pub mod Parts
