pub mod Reading
pub mod Marks
pub mod Row
pub mod Shapes
pub mod Wide
