pub mod Narrow
pub mod Tables
