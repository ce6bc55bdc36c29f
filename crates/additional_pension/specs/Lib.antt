pub mod Calls
pub mod ReadBack
pub mod Versions
