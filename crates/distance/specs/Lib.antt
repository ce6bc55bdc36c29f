pub mod Fraction
pub mod Exact
pub mod Distance
