pub mod Shape
pub mod Line
pub mod Steps
