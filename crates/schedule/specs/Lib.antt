pub mod Schedule
pub mod YearRows
pub mod Walk
