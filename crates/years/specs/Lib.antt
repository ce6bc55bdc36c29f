pub mod Years
pub mod Elected
