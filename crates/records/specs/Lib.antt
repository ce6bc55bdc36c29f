pub mod Record
pub mod Check
pub mod Post
pub mod History
