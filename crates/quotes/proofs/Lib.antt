pub mod Cap
pub mod Answers
pub mod Bounds
