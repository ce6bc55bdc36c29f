pub mod Quote
pub mod Cap
pub mod Bounds
pub mod Register
