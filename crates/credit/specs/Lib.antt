pub mod Runs
pub mod Credit
pub mod Months
pub mod SoFar
