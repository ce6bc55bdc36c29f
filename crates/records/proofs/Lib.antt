pub mod Zeros
pub mod Bad
pub mod Cells
pub mod Posting
pub mod Place
pub mod History
