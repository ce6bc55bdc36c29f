pub mod Field
pub mod Column
pub mod Steps
